-- The tree that a contract sees of a `DType`, and the parts that it sees of a map, a struct, a union and an extension.
use Rattle.std.specs.Prelude.{ℕ, List, [], ◌∷◌, Bool, map as list_map}
use Rattle.vortex_dtype.specs.TypeTree.{TypeTree, TypeTrees, null_type, bool_type, integer_type, utf8_type, binary_type, list_type, fixed_size_list_type, map_type, struct_type, union_type, variant_type, extension_type, no_types, type_then}
use Rattle.vortex_dtype.specs.declared.nullability.Nullability.{Nullability}
use Rattle.vortex_dtype.specs.declared.types.DType.{DType, fold-DType}
use Rattle.vortex_dtype.specs.declared.types.DType.TheOpen.{DType-F, ExtDType-F, FieldLists-F, HeldFields-F, MapDType-F, StructFields-F, UnionVariants-F}
use Rattle.vortex_dtype.specs.declared.types.ExtDType.{ExtDType, fold-ExtDType}
use Rattle.vortex_dtype.specs.declared.types.FieldLists.{FieldLists, fold-FieldLists}
use Rattle.vortex_dtype.specs.declared.types.MapDType.{MapDType, fold-MapDType}
use Rattle.vortex_dtype.specs.declared.types.StructFields.{StructFields, fold-StructFields}
use Rattle.vortex_dtype.specs.declared.types.UnionVariants.{UnionVariants, fold-UnionVariants}

-- a map's key type, its value type, and whether its keys are sorted
pub record MapParts : Type 0 where
  pub key : TypeTree
  pub value : TypeTree
  pub keys_sorted : Bool

-- the names of a struct's fields, and their types
pub record FieldParts : Type 0 where
  pub names : List (List ℕ)
  pub types : List TypeTree

-- the names of a union's variants, their types and their ids
pub record VariantParts : Type 0 where
  pub names : List (List ℕ)
  pub types : List TypeTree
  pub type_ids : List ℕ

-- an extension's id, its metadata, and its storage type
pub record ExtensionParts : Type 0 where
  pub id : List ℕ
  pub metadata : List ℕ
  pub storage : TypeTree

-- a list of trees, in the form that stands inside a tree
abbrev pub as_type_trees : List TypeTree → TypeTrees
as_type_trees [] = no_types
as_type_trees (t ∷ ts) = type_then t (as_type_trees ts)

-- the map type with these parts
abbrev pub map_type_of : MapParts → Nullability → TypeTree
map_type_of m n = map_type m.key m.value m.keys_sorted n

-- the struct type with these parts
abbrev pub struct_type_of : FieldParts → Nullability → TypeTree
struct_type_of f n = struct_type f.names (as_type_trees f.types) n

-- the union type with these parts
abbrev pub union_type_of : VariantParts → Nullability → TypeTree
union_type_of v n = union_type v.names (as_type_trees v.types) v.type_ids n

-- the extension type with these parts
abbrev pub extension_type_of : ExtensionParts → TypeTree
extension_type_of e = extension_type e.id e.metadata e.storage

-- one level of a type, with a tree or parts in place of all below it
abbrev pub Level : (Type 0 → Type 0 → Type 0 → Type 0 → Type 0 → Type 0 → Type 0 → Type 0) → Type 0
Level F = F TypeTree FieldParts ExtensionParts FieldParts MapParts FieldParts VariantParts

-- the tree that one level makes
abbrev pub type_step : Level DType-F → TypeTree
type_step DType-F.Null = null_type
type_step (DType-F.Bool n) = bool_type n
type_step (DType-F.Primitive k n) = integer_type k n
type_step (DType-F.Utf8 n) = utf8_type n
type_step (DType-F.Binary n) = binary_type n
type_step (DType-F.List e n) = list_type e.value n
type_step (DType-F.FixedSizeList e size n) = fixed_size_list_type e.value size n
type_step (DType-F.Map m n) = map_type_of m n
type_step (DType-F.Struct f n) = struct_type_of f n
type_step (DType-F.Union v n) = union_type_of v n
type_step (DType-F.Variant n) = variant_type n
type_step (DType-F.Extension e) = extension_type_of e

-- the parts that one level of an extension makes
abbrev pub extension_step : Level ExtDType-F → ExtensionParts
extension_step e = record { id = e.id; metadata = e.metadata; storage = e.storage.value }

-- the parts that one level of a map makes
abbrev pub map_step : Level MapDType-F → MapParts
map_step m = record { key = m.key.value; value = m.value.value; keys_sorted = m.keys_sorted }

-- the parts that one level of field lists makes
abbrev pub lists_step : Level FieldLists-F → FieldParts
lists_step f = record { names = f.names.items; types = f.dtypes.items }

-- the fields, whether they are shared or not
abbrev pub held_step : Level HeldFields-F → FieldParts
held_step (HeldFields-F.Own f) = f
held_step (HeldFields-F.Shared f) = f.value

-- the parts that one level of a struct makes
abbrev pub fields_step : Level StructFields-F → FieldParts
fields_step f = f.held

-- the parts that one level of a union makes
abbrev pub variants_step : Level UnionVariants-F → VariantParts
variants_step v = record { names = v.names.items; types = v.dtypes.items; type_ids = v.type_ids.items }

-- the tree of a type
abbrev pub type_of : DType → TypeTree
type_of = fold-DType TypeTree FieldParts ExtensionParts FieldParts MapParts FieldParts VariantParts type_step held_step extension_step lists_step map_step fields_step variants_step

-- the parts of an extension
abbrev pub ext_of : ExtDType → ExtensionParts
ext_of = fold-ExtDType TypeTree FieldParts ExtensionParts FieldParts MapParts FieldParts VariantParts type_step held_step extension_step lists_step map_step fields_step variants_step

-- the parts of a map
abbrev pub map_of : MapDType → MapParts
map_of = fold-MapDType TypeTree FieldParts ExtensionParts FieldParts MapParts FieldParts VariantParts type_step held_step extension_step lists_step map_step fields_step variants_step

-- the parts of a struct
abbrev pub fields_of : StructFields → FieldParts
fields_of = fold-StructFields TypeTree FieldParts ExtensionParts FieldParts MapParts FieldParts VariantParts type_step held_step extension_step lists_step map_step fields_step variants_step

-- the parts of a struct, from its lists
abbrev pub lists_of : FieldLists → FieldParts
lists_of = fold-FieldLists TypeTree FieldParts ExtensionParts FieldParts MapParts FieldParts VariantParts type_step held_step extension_step lists_step map_step fields_step variants_step

-- the parts of a union
abbrev pub variants_of : UnionVariants → VariantParts
variants_of = fold-UnionVariants TypeTree FieldParts ExtensionParts FieldParts MapParts FieldParts VariantParts type_step held_step extension_step lists_step map_step fields_step variants_step

-- the trees of several types
abbrev pub dtype_trees : List DType → TypeTrees
dtype_trees dtypes = as_type_trees (list_map type_of dtypes)
