-- Which types are equal, as a test.
use Rattle.std.specs.Prelude.{ℕ, ◌&&◌, ◌==◌, List, Bool, true, false}
use Rattle.std.specs.Bool.{beq}
use Rattle.std.specs.Cmp.Lexicographic.{pointwise}
use Rattle.std.specs.Str.{bytes_eq}
use Rattle.vortex_dtype.specs.PTypes.{same_ptype}
use Rattle.vortex_dtype.specs.TypeTree.{TypeTree, TypeTrees, null_type, bool_type, integer_type, utf8_type, binary_type, list_type, fixed_size_list_type, map_type, struct_type, union_type, variant_type, extension_type, no_types, type_then, trim, trim_all}
use Rattle.vortex_dtype.specs.TypeOf.{ExtensionParts, MapParts, FieldParts, VariantParts, as_type_trees}
use Rattle.vortex_dtype.specs.declared.nullability.Nullability.{Nullability}
use Rattle.vortex_dtype.specs.declared.nullability.Nullability.TheVariants.{NonNullable, Nullable}

-- a number for each nullability
abbrev pub nullability_code : Nullability → ℕ
nullability_code NonNullable = 0
nullability_code Nullable = 1

-- whether the two nullabilities are equal
abbrev pub nullability_eq : Nullability → Nullability → Bool
nullability_eq m n = nullability_code m == nullability_code n

-- whether the two lists have the same names in the same order
abbrev pub names_eq : List (List ℕ) → List (List ℕ) → Bool
names_eq = pointwise bytes_eq

-- whether the two trees are equal, nullability included
abbrev mutual
  pub tree_eq : TypeTree → TypeTree → Bool
  tree_eq null_type null_type = true
  tree_eq (bool_type m) (bool_type n) = nullability_eq m n
  tree_eq (integer_type j m) (integer_type k n) = same_ptype j k && nullability_eq m n
  tree_eq (utf8_type m) (utf8_type n) = nullability_eq m n
  tree_eq (binary_type m) (binary_type n) = nullability_eq m n
  tree_eq (list_type s m) (list_type t n) = tree_eq s t && nullability_eq m n
  tree_eq (fixed_size_list_type s i m) (fixed_size_list_type t j n) = tree_eq s t && (i == j) && nullability_eq m n
  tree_eq (map_type k v a m) (map_type l w b n) = tree_eq k l && tree_eq v w && beq a b && nullability_eq m n
  tree_eq (struct_type xs ss m) (struct_type ys ts n) = names_eq xs ys && trees_eq ss ts && nullability_eq m n
  tree_eq (union_type xs ss is m) (union_type ys ts js n) = names_eq xs ys && trees_eq ss ts && bytes_eq is js && nullability_eq m n
  tree_eq (variant_type m) (variant_type n) = nullability_eq m n
  tree_eq (extension_type i a s) (extension_type j b t) = bytes_eq i j && bytes_eq a b && tree_eq s t
  tree_eq _ _ = false

  pub trees_eq : TypeTrees → TypeTrees → Bool
  trees_eq no_types no_types = true
  trees_eq (type_then s ss) (type_then t ts) = tree_eq s t && trees_eq ss ts
  trees_eq _ _ = false

-- whether the parts of two maps are equal; if `exact` is false, up to nullability
abbrev pub map_eq : Bool → MapParts → MapParts → Bool
map_eq exact a b = tree_eq (trim exact a.key) (trim exact b.key) && tree_eq (trim exact a.value) (trim exact b.value) && beq a.keys_sorted b.keys_sorted

-- whether the parts of two structs are equal; if `exact` is false, up to nullability
abbrev pub fields_eq : Bool → FieldParts → FieldParts → Bool
fields_eq exact a b = names_eq a.names b.names && trees_eq (trim_all exact (as_type_trees a.types)) (trim_all exact (as_type_trees b.types))

-- whether the parts of two unions are equal; if `exact` is false, up to nullability
abbrev pub variants_eq : Bool → VariantParts → VariantParts → Bool
variants_eq exact a b = names_eq a.names b.names && trees_eq (trim_all exact (as_type_trees a.types)) (trim_all exact (as_type_trees b.types)) && bytes_eq a.type_ids b.type_ids

-- whether the parts of two extensions are equal; if `exact` is false, up to nullability
abbrev pub ext_eq : Bool → ExtensionParts → ExtensionParts → Bool
ext_eq exact a b = bytes_eq a.id b.id && bytes_eq a.metadata b.metadata && tree_eq (trim exact a.storage) (trim exact b.storage)
