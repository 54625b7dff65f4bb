-- When the makers of scalars refuse.
use Rattle.std.specs.Prelude.{ℕ, ◌==◌, ◌&&◌, ◌^◌, nat_lt, Bool, not, List, length, map, position, Option, Some, None, option_map, if◌then◌else◌}
use Rattle.std.specs.List.{zip}
use Rattle.std.specs.Option.{option_or}
use Rattle.vortex_dtype.specs.TypeEquality.{tree_eq}
use Rattle.vortex_dtype.specs.TypeOf.{ExtensionParts, FieldParts, MapParts, VariantParts, as_type_trees}
use Rattle.vortex_dtype.specs.TypeTree.{TypeTree, extension_type, union_type}
use Rattle.vortex_dtype.specs.declared.error.VortexError.{VortexError}
use Rattle.vortex_dtype.specs.declared.error.VortexError.TheVariants.{WrongKind, WrongChild, WrongLength, UnknownTypeId, VariantNull, TooMany}
use Rattle.vortex_dtype.specs.declared.nullability.Nullability.{Nullability}
use Rattle.vortex_value.specs.Breaches.{is_null_type}
use Rattle.vortex_value.specs.Values.RawOf.{as_raw_trees, value_trees}
use Rattle.vortex_value.specs.Values.RawTree.{RawTree, raw_tuple, RawTrees, no_raws, raw_then, is_absent}
use Rattle.vortex_value.specs.Values.Scalars.{IsValid, scalar_raw, scalar_type}
use Rattle.vortex_value.specs.Validity.{type_with}
use Rattle.vortex_value.specs.declared.scalars.Scalar.{Scalar}

-- the child at this place is refused unless its type is exactly the expected one; nullability counts
abbrev pub child_cause : ℕ → TypeTree → TypeTree → Option VortexError
child_cause index expected found = if tree_eq found expected then None else Some (WrongChild index)

-- the child of a union is refused for an id that no variant has, and else by the variant's place and type
abbrev pub tagged_cause : ℕ → Option ℕ → Option TypeTree → TypeTree → Option VortexError
tagged_cause id (Some index) (Some expected) found = child_cause index expected found
tagged_cause id _ _ found = Some (UnknownTypeId id)

-- why these variants refuse a child of this type under this id
abbrev pub union_cause : VariantParts → ℕ → TypeTree → Option VortexError
union_cause variants id found =
    tagged_cause id (position (λ i. i == id) variants.type_ids) (type_with id variants.type_ids (as_type_trees variants.types)) found

-- why a variant refuses a value: it is a null of a type other than Null
abbrev pub inside_cause : TypeTree → RawTree → Option VortexError
inside_cause t v = if is_absent v && not (is_null_type t) then Some VariantNull else None

-- the type of unions of these variants
abbrev pub union_of : VariantParts → Nullability → TypeTree
union_of variants n = union_type variants.names (as_type_trees variants.types) variants.type_ids n

-- the type of this extension
abbrev pub extension_over : ExtensionParts → TypeTree
extension_over extension = extension_type extension.id extension.metadata extension.storage

-- the raw values of several scalars, in order
abbrev pub child_trees : List Scalar → RawTrees
child_trees children = value_trees (map (λ x. x.value) children)

-- more children than 32 bits count
abbrev pub count_cause : ℕ → Option VortexError
count_cause n = if nat_lt n (2 ^ 32) then None else Some TooMany

-- the place of the first child whose type is not exactly the expected one
abbrev pub wrong_place : TypeTree → List Scalar → Option ℕ
wrong_place expected children = position (λ x. not (tree_eq (scalar_type x) expected)) children

-- why children make no list of this element type: the first of another type, and else their number
abbrev pub list_cause : TypeTree → List Scalar → Option VortexError
list_cause element children = option_or (option_map WrongChild (wrong_place element children)) (count_cause (length children))

-- the place of the first child whose type is not exactly its field's
abbrev pub wrong_field : List TypeTree → List Scalar → Option ℕ
wrong_field types children = position (λ p. not (tree_eq (scalar_type p.1) p.0)) (zip types children)

-- why children make no struct of these fields: their number, and else the first of another type than its field's
abbrev pub fields_cause : List TypeTree → List Scalar → Option VortexError
fields_cause types children =
    if length types == length children then option_map WrongChild (wrong_field types children) else Some (WrongLength (length types) (length children))

-- why children make no struct: the type is no struct type, and else what its fields say
abbrev pub struct_cause : Option FieldParts → List Scalar → Option VortexError
struct_cause None children = Some WrongKind
struct_cause (Some fields) children = fields_cause fields.types children

-- an entry of a map as a raw value: a tuple of the key and the value
abbrev pub raw_entry : Scalar × Scalar → RawTree
raw_entry entry = raw_tuple (raw_then (scalar_raw entry.0) (raw_then (scalar_raw entry.1) no_raws))

-- the raw values of several entries, in order
abbrev pub raw_entries : List (Scalar × Scalar) → RawTrees
raw_entries entries = as_raw_trees (map (λ entry. Some (raw_entry entry)) entries)

-- the key and the value are valid
abbrev pub IsValidEntry : Scalar × Scalar → Type 0
IsValidEntry entry = IsValid entry.0 × IsValid entry.1

-- the key is exactly of the map's key type, and the value of its value type
abbrev pub is_entry_of : MapParts → Scalar × Scalar → Bool
is_entry_of parts entry = tree_eq (scalar_type entry.0) parts.key && tree_eq (scalar_type entry.1) parts.value

-- the place of the first entry whose key or value is not exactly of the map's type
abbrev pub wrong_entry : MapParts → List (Scalar × Scalar) → Option ℕ
wrong_entry parts entries = position (λ entry. not (is_entry_of parts entry)) entries

-- why this entry at this place makes no part of a map of these types
abbrev pub entry_cause : MapParts → ℕ → Scalar × Scalar → Option VortexError
entry_cause parts index entry = if is_entry_of parts entry then None else Some (WrongChild index)

-- why entries make no map of these types: the first wrong entry
abbrev pub entries_cause : MapParts → List (Scalar × Scalar) → Option VortexError
entries_cause parts entries = option_map WrongChild (wrong_entry parts entries)

-- why entries make no map: the type is no map type, and else what its key and value types say
abbrev pub map_cause : Option MapParts → List (Scalar × Scalar) → Option VortexError
map_cause None entries = Some WrongKind
map_cause (Some parts) entries = entries_cause parts entries
