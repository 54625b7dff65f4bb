-- What a type feeds a hasher.
use Rattle.std.specs.Prelude.{ℕ, List, [], ◌++◌, Bool}
use Rattle.std.specs.Hash as fed
use Rattle.std.specs.Hash.{HashWrites}
use Rattle.vortex_dtype.specs.TypeTree.{TypeTree, TypeTrees, null_type, bool_type, integer_type, utf8_type, binary_type, list_type, fixed_size_list_type, map_type, struct_type, union_type, variant_type, extension_type, no_types, type_then, trim, trim_all}
use Rattle.vortex_dtype.specs.TypeOf.{ExtensionParts, MapParts, FieldParts, VariantParts, as_type_trees}
use Rattle.vortex_dtype.specs.TypeEquality.{nullability_code}
use Rattle.vortex_dtype.specs.PTypes.{ptype_index}
use Rattle.vortex_dtype.specs.declared.nullability.Nullability.{Nullability}
use Rattle.vortex_dtype.specs.declared.ptype.PType.{PType}

-- a nullability feeds its number
abbrev pub nullability_feed : Nullability → HashWrites
nullability_feed n = fed.u8 (nullability_code n)

-- a PType feeds its number
abbrev pub ptype_feed : PType → HashWrites
ptype_feed k = fed.u8 (ptype_index k)

-- a string, an id or metadata feeds its length and its bytes
abbrev pub bytes_feed : List ℕ → HashWrites
bytes_feed = fed.slice fed.u8

-- names feed their number, and then each name
abbrev pub names_feed : List (List ℕ) → HashWrites
names_feed = fed.slice bytes_feed

-- a number for each variant of a type
abbrev pub variant_number : TypeTree → ℕ
variant_number null_type = 0
variant_number (bool_type n) = 1
variant_number (integer_type k n) = 2
variant_number (utf8_type n) = 3
variant_number (binary_type n) = 4
variant_number (list_type e n) = 5
variant_number (fixed_size_list_type e size n) = 6
variant_number (map_type k v sorted n) = 7
variant_number (struct_type names ts n) = 8
variant_number (union_type names ts ids n) = 9
variant_number (variant_type n) = 10
variant_number (extension_type id metadata t) = 11

-- a type feeds the number of its variant, and then its parts in order
abbrev mutual
  pub tree_feed : TypeTree → HashWrites
  tree_feed null_type = fed.u8 0
  tree_feed (bool_type n) = fed.u8 1 ++ nullability_feed n
  tree_feed (integer_type k n) = fed.u8 2 ++ ptype_feed k ++ nullability_feed n
  tree_feed (utf8_type n) = fed.u8 3 ++ nullability_feed n
  tree_feed (binary_type n) = fed.u8 4 ++ nullability_feed n
  tree_feed (list_type e n) = fed.u8 5 ++ tree_feed e ++ nullability_feed n
  tree_feed (fixed_size_list_type e size n) = fed.u8 6 ++ tree_feed e ++ fed.u32 size ++ nullability_feed n
  tree_feed (map_type k v sorted n) = fed.u8 7 ++ tree_feed k ++ tree_feed v ++ fed.bool sorted ++ nullability_feed n
  tree_feed (struct_type names ts n) = fed.u8 8 ++ names_feed names ++ trees_feed ts ++ nullability_feed n
  tree_feed (union_type names ts ids n) = fed.u8 9 ++ names_feed names ++ trees_feed ts ++ bytes_feed ids ++ nullability_feed n
  tree_feed (variant_type n) = fed.u8 10 ++ nullability_feed n
  tree_feed (extension_type id metadata t) = fed.u8 11 ++ bytes_feed id ++ bytes_feed metadata ++ tree_feed t

  pub trees_feed : TypeTrees → HashWrites
  trees_feed no_types = []
  trees_feed (type_then t ts) = tree_feed t ++ trees_feed ts

-- what a map type feeds; if `exact` is false, without nullability
abbrev pub map_feed : Bool → MapParts → HashWrites
map_feed exact m = tree_feed (trim exact m.key) ++ tree_feed (trim exact m.value) ++ fed.bool m.keys_sorted

-- what a struct type feeds; if `exact` is false, without nullability
abbrev pub fields_feed : Bool → FieldParts → HashWrites
fields_feed exact f = names_feed f.names ++ trees_feed (trim_all exact (as_type_trees f.types))

-- what a union type feeds; if `exact` is false, without nullability
abbrev pub variants_feed : Bool → VariantParts → HashWrites
variants_feed exact v = names_feed v.names ++ trees_feed (trim_all exact (as_type_trees v.types)) ++ bytes_feed v.type_ids

-- what an extension type feeds; if `exact` is false, without nullability
abbrev pub ext_feed : Bool → ExtensionParts → HashWrites
ext_feed exact e = bytes_feed e.id ++ bytes_feed e.metadata ++ tree_feed (trim exact e.storage)
