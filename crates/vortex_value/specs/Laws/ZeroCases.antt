-- The zero and the default of each type, case by case.
use Rattle.std.specs.Prelude.{◌≡◌, ℕ, pos, Bool, false, List, [], ◌∷◌, map, replicate, Option, Some, None, option_map}
use Rattle.vortex_dtype.specs.TypeOf.{as_type_trees}
use Rattle.vortex_dtype.specs.TypeTree.{TypeTree, null_type, bool_type, integer_type, utf8_type, binary_type, list_type, fixed_size_list_type, map_type, struct_type, union_type, variant_type, extension_type, TypeTrees, no_types, type_then, IsNullable}
use Rattle.vortex_dtype.specs.declared.nullability.Nullability.{Nullability}
use Rattle.vortex_dtype.specs.declared.nullability.Nullability.TheVariants.{NonNullable}
use Rattle.vortex_dtype.specs.declared.ptype.PType.{PType}
use Rattle.vortex_value.specs.Values.Content.{Content, null, truth, whole, text, string, sequence, tagged, typed, Contents, no_contents}
use Rattle.vortex_value.specs.Zero.{and_rest, default_of, zero_of}

-- the contents, if there is each
abbrev pub each_of : List (Option Content) → Option Contents
each_of [] = Some no_contents
each_of (c ∷ cs) = and_rest c (each_of cs)

-- The zero of each type, whatever its nullability.
pub record ZeroByCases : Type 0 where
  pub nulls : zero_of null_type ≡ None
  pub booleans : (n : Nullability) → zero_of (bool_type n) ≡ Some (truth false)
  pub integers : (k : PType) (n : Nullability) → zero_of (integer_type k n) ≡ Some (whole (pos 0))
  pub texts : (n : Nullability) → zero_of (utf8_type n) ≡ Some (text [])
  pub strings : (n : Nullability) → zero_of (binary_type n) ≡ Some (string [])
  pub lists : (e : TypeTree) (n : Nullability) → zero_of (list_type e n) ≡ Some (sequence no_contents)
  pub maps : (k w : TypeTree) (sorted : Bool) (n : Nullability) → zero_of (map_type k w sorted n) ≡ Some (sequence no_contents)
  pub fixed_size_lists : (e : TypeTree) (size : ℕ) (n : Nullability) → zero_of (fixed_size_list_type e size n) ≡ option_map sequence (each_of (replicate size (zero_of e)))
  pub structs : (names : List (List ℕ)) (ts : List TypeTree) (n : Nullability)
      → zero_of (struct_type names (as_type_trees ts) n) ≡ option_map sequence (each_of (map zero_of ts))
  pub unions : (names : List (List ℕ)) (t : TypeTree) (ts : TypeTrees) (id : ℕ) (ids : List ℕ) (n : Nullability)
      → zero_of (union_type names (type_then t ts) (id ∷ ids) n) ≡ option_map (tagged id) (zero_of t)
  pub no_variants : (names : List (List ℕ)) (ids : List ℕ) (n : Nullability) → zero_of (union_type names no_types ids n) ≡ None
  pub no_ids : (names : List (List ℕ)) (ts : TypeTrees) (n : Nullability) → zero_of (union_type names ts [] n) ≡ None
  pub variants : (n : Nullability) → zero_of (variant_type n) ≡ Some (typed null_type null)
  pub extensions : (id metadata : List ℕ) (t : TypeTree) → zero_of (extension_type id metadata t) ≡ zero_of t

-- The default: the null of a type that takes one, and of each other type.
pub record DefaultByCases : Type 0 where
  pub nullable : (t : TypeTree) → IsNullable t → default_of t ≡ Some null
  pub booleans : default_of (bool_type NonNullable) ≡ Some (truth false)
  pub integers : (k : PType) → default_of (integer_type k NonNullable) ≡ Some (whole (pos 0))
  pub texts : default_of (utf8_type NonNullable) ≡ Some (text [])
  pub strings : default_of (binary_type NonNullable) ≡ Some (string [])
  pub lists : (e : TypeTree) → default_of (list_type e NonNullable) ≡ Some (sequence no_contents)
  pub maps : (k w : TypeTree) (sorted : Bool) → default_of (map_type k w sorted NonNullable) ≡ Some (sequence no_contents)
  pub fixed_size_lists : (e : TypeTree) (size : ℕ) → default_of (fixed_size_list_type e size NonNullable) ≡ option_map sequence (each_of (replicate size (default_of e)))
  pub structs : (names : List (List ℕ)) (ts : List TypeTree)
      → default_of (struct_type names (as_type_trees ts) NonNullable) ≡ option_map sequence (each_of (map default_of ts))
  pub unions : (names : List (List ℕ)) (t : TypeTree) (ts : TypeTrees) (id : ℕ) (ids : List ℕ)
      → default_of (union_type names (type_then t ts) (id ∷ ids) NonNullable) ≡ option_map (tagged id) (default_of t)
  pub no_variants : (names : List (List ℕ)) (ids : List ℕ) → default_of (union_type names no_types ids NonNullable) ≡ None
  pub no_ids : (names : List (List ℕ)) (ts : TypeTrees) → default_of (union_type names ts [] NonNullable) ≡ None
  pub variants : default_of (variant_type NonNullable) ≡ Some (typed null_type null)
  pub extensions : (id metadata : List ℕ) (t : TypeTree) → default_of (extension_type id metadata t) ≡ default_of t
