-- Which raw values are valid for a type.
use Rattle.std.specs.Prelude.{◌≡◌, ℕ, ◌==◌, List, [], ◌∷◌, Option, Some, None, if◌then◌else◌}
use Rattle.vortex_dtype.specs.TypeTree.{TypeTree, null_type, bool_type, integer_type, utf8_type, binary_type, list_type, fixed_size_list_type, map_type, struct_type, union_type, variant_type, TypeTrees, no_types, type_then, IsNullable, storage}
use Rattle.vortex_pvalue.specs.Numbers.{InRange}
use Rattle.vortex_value.specs.Values.RawTree.{RawTree, absent, raw_bool, raw_integer, raw_text, raw_bytes, raw_tuple, raw_union, raw_variant, RawTrees, no_raws, raw_then, count}

-- the type of the variant with this id, if there is one
abbrev pub type_with : ℕ → List ℕ → TypeTrees → Option TypeTree
type_with id [] ts = None
type_with id (i ∷ is) no_types = None
type_with id (i ∷ is) (type_then t ts) = if i == id then Some t else type_with id is ts

-- there is a type, and p holds of it
abbrev pub HasType : Option TypeTree → (TypeTree → Type 0) → Type 0
HasType None p = ⊥
HasType (Some t) p = p t

-- a variant may hold the value of this type: it is not null, or its type is Null
abbrev pub MayBeInside : TypeTree → RawTree → Type 0
MayBeInside t absent = t ≡ null_type
MayBeInside t _ = Unit {0}

-- valid for a type that is no extension
abbrev mutual
  pub ValidAt : TypeTree → RawTree → Type 0
  ValidAt t absent = IsNullable t
  ValidAt (bool_type n) (raw_bool b) = Unit {0}
  ValidAt (utf8_type n) (raw_text bs) = Unit {0}
  ValidAt (binary_type n) (raw_bytes bs) = Unit {0}
  ValidAt (integer_type k n) (raw_integer l z) = (l ≡ k) × InRange k z
  ValidAt (list_type e n) (raw_tuple vs) = EachValid e vs
  ValidAt (fixed_size_list_type e size n) (raw_tuple vs) = (count vs ≡ size) × EachValid e vs
  ValidAt (map_type k w sorted n) (raw_tuple vs) = EntriesValid k w vs
  ValidAt (struct_type names ts n) (raw_tuple vs) = FieldsValid ts vs
  ValidAt (union_type names ts ids n) (raw_union id v) = HasType (type_with id ids ts) (λ t. ValidAt (storage t) v)
  ValidAt (variant_type n) (raw_variant t v) = MayBeInside t v × ValidAt (storage t) v
  ValidAt _ _ = ⊥

  -- each is valid for the type
  pub EachValid : TypeTree → RawTrees → Type 0
  EachValid e no_raws = Unit {0}
  EachValid e (raw_then v vs) = ValidAt (storage e) v × EachValid e vs

  -- each is a present pair of a valid key and a valid value
  pub EntriesValid : TypeTree → TypeTree → RawTrees → Type 0
  EntriesValid k w no_raws = Unit {0}
  EntriesValid k w (raw_then (raw_tuple (raw_then x (raw_then y no_raws))) vs) = ValidAt (storage k) x × ValidAt (storage w) y × EntriesValid k w vs
  EntriesValid k w _ = ⊥

  -- as many as fields, each valid for its field
  pub FieldsValid : TypeTrees → RawTrees → Type 0
  FieldsValid no_types no_raws = Unit {0}
  FieldsValid (type_then t ts) (raw_then v vs) = ValidAt (storage t) v × FieldsValid ts vs
  FieldsValid _ _ = ⊥

-- the optional raw value is valid for the type; an extension accepts what its storage accepts
abbrev pub Valid : TypeTree → RawTree → Type 0
Valid t v = ValidAt (storage t) v
