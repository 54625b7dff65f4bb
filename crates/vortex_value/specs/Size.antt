-- The size of a value in bytes.
use Rattle.std.specs.Prelude.{◌≡◌, ℕ, ◌+◌, ◌-◌, ◌^◌, Bool, List, [], ◌∷◌, length, min, Option, Some, None, sum_by}
use Rattle.std.specs.List.{zip}
use Rattle.vortex_dtype.specs.PTypes.{byte_width_of}
use Rattle.vortex_dtype.specs.TypeOf.{as_type_trees}
use Rattle.vortex_dtype.specs.TypeTree.{TypeTree, bool_type, integer_type, utf8_type, binary_type, list_type, fixed_size_list_type, map_type, struct_type, union_type, variant_type, extension_type, TypeTrees, type_then, storage}
use Rattle.vortex_dtype.specs.declared.nullability.Nullability.{Nullability}
use Rattle.vortex_value.specs.Values.RawTree.{RawTree, raw_text, raw_bytes, raw_tuple, raw_union, raw_variant, RawTrees, no_raws, raw_then}
use Rattle.vortex_value.specs.Validity.{type_with}

-- the size of a union's child, for the type that the id gives
abbrev pub child_size : Option TypeTree → (TypeTree → ℕ) → ℕ
child_size None size = 0
child_size (Some t) size = size t

-- The size at a type that is no extension: that of its parts. A truth value and an integer have their size also for a
-- null. Another null, and what is no value of the type, have the size 0.
abbrev mutual
  pub size_at : TypeTree → RawTree → ℕ
  size_at (bool_type n) v = 1
  size_at (integer_type k n) v = byte_width_of k
  size_at (utf8_type n) (raw_text bs) = length bs
  size_at (binary_type n) (raw_bytes bs) = length bs
  size_at (list_type e n) (raw_tuple vs) = elements_size e vs
  size_at (map_type k w sorted n) (raw_tuple vs) = entries_size k w vs
  size_at (fixed_size_list_type e size n) (raw_tuple vs) = elements_size e vs
  size_at (struct_type names ts n) (raw_tuple vs) = fields_size ts vs
  size_at (union_type names ts ids n) (raw_union id v) = 1 + child_size (type_with id ids ts) (λ t. size_at (storage t) v)
  size_at (variant_type n) (raw_variant t v) = size_at (storage t) v
  size_at _ _ = 0

  -- of the elements of a list, together
  pub elements_size : TypeTree → RawTrees → ℕ
  elements_size e no_raws = 0
  elements_size e (raw_then v vs) = size_at (storage e) v + elements_size e vs

  -- of the keys and values of a map, together
  pub entries_size : TypeTree → TypeTree → RawTrees → ℕ
  entries_size k w no_raws = 0
  entries_size k w (raw_then v vs) = entry_size k w v + entries_size k w vs

  -- of the key and the value of an entry, together
  pub entry_size : TypeTree → TypeTree → RawTree → ℕ
  entry_size k w (raw_tuple (raw_then x (raw_then y no_raws))) = size_at (storage k) x + size_at (storage w) y
  entry_size k w _ = 0

  -- of the fields of a struct, together
  pub fields_size : TypeTrees → RawTrees → ℕ
  fields_size (type_then t ts) (raw_then v vs) = size_at (storage t) v + fields_size ts vs
  fields_size _ _ = 0

-- the size of an optional raw value of the type, in bytes; an extension takes what its storage takes
abbrev pub size_of : TypeTree → RawTree → ℕ
size_of t v = size_at (storage t) v

-- a size in bytes, no more than the greatest `usize`
abbrev pub capped : ℕ → ℕ
capped n = min n (2 ^ 64 - 1)

-- these values as the parts of a tuple
abbrev pub tuple_of : List RawTree → RawTrees
tuple_of [] = no_raws
tuple_of (v ∷ vs) = raw_then v (tuple_of vs)

-- these keys and values as the entries of a map
abbrev pub entries_of : List (RawTree × RawTree) → RawTrees
entries_of [] = no_raws
entries_of (p ∷ ps) = raw_then (raw_tuple (raw_then p.0 (raw_then p.1 no_raws))) (entries_of ps)

-- The size of a whole is the sum of the sizes of its parts, and of a union one more.
pub record SizeIsSum : Type 0 where
  pub list : (e : TypeTree) (n : Nullability) (vs : List RawTree) → size_of (list_type e n) (raw_tuple (tuple_of vs)) ≡ sum_by (size_of e) vs
  pub fixed_size_list : (e : TypeTree) (size : ℕ) (n : Nullability) (vs : List RawTree) → size_of (fixed_size_list_type e size n) (raw_tuple (tuple_of vs)) ≡ sum_by (size_of e) vs
  pub map : (k w : TypeTree) (sorted : Bool) (n : Nullability) (ps : List (RawTree × RawTree))
      → size_of (map_type k w sorted n) (raw_tuple (entries_of ps)) ≡ sum_by (λ p. size_of k p.0 + size_of w p.1) ps
  pub struct : (names : List (List ℕ)) (ts : List TypeTree) (n : Nullability) (vs : List RawTree)
      → size_of (struct_type names (as_type_trees ts) n) (raw_tuple (tuple_of vs)) ≡ sum_by (λ p. size_of p.0 p.1) (zip ts vs)
  pub union : (names : List (List ℕ)) (ts : TypeTrees) (ids : List ℕ) (n : Nullability) (id : ℕ) (t : TypeTree) (v : RawTree)
      → type_with id ids ts ≡ Some t → size_of (union_type names ts ids n) (raw_union id v) ≡ 1 + size_of t v
  pub variant : (n : Nullability) (t : TypeTree) (v : RawTree) → size_of (variant_type n) (raw_variant t v) ≡ size_of t v
  pub extension : (id metadata : List ℕ) (t : TypeTree) (v : RawTree) → size_of (extension_type id metadata t) v ≡ size_of t v
