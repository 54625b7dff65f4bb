-- Looking into types and their parts.
use Rattle.std.specs.Prelude.{◌≡◌, ℕ, List, [], ◌∷◌, map, Bool, true, false, Option, Some, None, position, slice_get, option_and_then}
use Rattle.std.specs.Str.{bytes_eq}
use Rattle.vortex_dtype.specs.TypeTree.{TypeTree, TypeTrees, utf8_type, binary_type, list_type, fixed_size_list_type, map_type, struct_type, union_type, extension_type, no_types, type_then, as_nullable}
use Rattle.vortex_dtype.specs.TypeOf.{ExtensionParts, MapParts, FieldParts, VariantParts}

-- the place of the first field with the name
abbrev pub field_index : FieldParts → List ℕ → Option ℕ
field_index f name = position (λ n. bytes_eq n name) f.names

-- the type of the first field with the name
abbrev pub type_named : FieldParts → List ℕ → Option TypeTree
type_named f name = option_and_then (slice_get f.types) (field_index f name)

-- for each of the names, in order, that name and the type of the first field that has it
abbrev pub IsProjection : FieldParts → List (List ℕ) → FieldParts → Type 0
IsProjection f names g = (g.names ≡ names) × (map (type_named f) names ≡ map Some g.types)

-- the types that a tree holds, as a list
abbrev pub listed_types : TypeTrees → List TypeTree
listed_types no_types = []
listed_types (type_then t ts) = t ∷ listed_types ts

-- whether the type is `Utf8`
abbrev pub is_utf8_type : TypeTree → Bool
is_utf8_type (utf8_type n) = true
is_utf8_type _ = false

-- whether the type is `Binary`
abbrev pub is_binary_type : TypeTree → Bool
is_binary_type (binary_type n) = true
is_binary_type _ = false

-- whether the type is a map
abbrev pub is_map_type : TypeTree → Bool
is_map_type (map_type k v sorted n) = true
is_map_type _ = false

-- whether the type is a union
abbrev pub is_union_type : TypeTree → Bool
is_union_type (union_type names ts ids n) = true
is_union_type _ = false

-- whether the type is an extension
abbrev pub is_extension_type : TypeTree → Bool
is_extension_type (extension_type id metadata t) = true
is_extension_type _ = false

-- the element type of a list, of fixed size or not
abbrev pub element_in : TypeTree → Option TypeTree
element_in (list_type e n) = Some e
element_in (fixed_size_list_type e size n) = Some e
element_in _ = None

-- the parts of a map type
abbrev pub map_in : TypeTree → Option MapParts
map_in (map_type k v sorted n) = Some (record { key = k; value = v; keys_sorted = sorted })
map_in _ = None

-- the parts of a struct type
abbrev pub fields_in : TypeTree → Option FieldParts
fields_in (struct_type names ts n) = Some (record { names = names; types = listed_types ts })
fields_in _ = None

-- the parts of a union type
abbrev pub variants_in : TypeTree → Option VariantParts
variants_in (union_type names ts ids n) = Some (record { names = names; types = listed_types ts; type_ids = ids })
variants_in _ = None

-- the parts of an extension type
abbrev pub extension_in : TypeTree → Option ExtensionParts
extension_in (extension_type id metadata t) = Some (record { id = id; metadata = metadata; storage = t })
extension_in _ = None

-- the extension with its storage made nullable
abbrev pub nullable_extension : ExtensionParts → ExtensionParts
nullable_extension e = record { id = e.id; metadata = e.metadata; storage = as_nullable e.storage }
