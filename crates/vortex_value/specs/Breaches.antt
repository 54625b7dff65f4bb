-- Every breach of validity with its path, in reading order, and what a check answers of them.
use Rattle.std.specs.Prelude.{◌≡◌, ◌≢◌, ◌↔◌, ℕ, suc, ◌==◌, ◌&&◌, not, Bool, true, false, List, [], ◌∷◌, ◌++◌, Option, Some, None, IsTrue, if◌then◌else◌}
use Rattle.vortex_dtype.specs.PTypes.{same_ptype}
use Rattle.vortex_dtype.specs.TypeTree.{TypeTree, null_type, bool_type, integer_type, utf8_type, binary_type, list_type, fixed_size_list_type, map_type, struct_type, union_type, variant_type, TypeTrees, no_types, type_then, is_nullable, storage}
use Rattle.vortex_dtype.specs.declared.error.Breach.{Breach}
use Rattle.vortex_dtype.specs.declared.error.Breach.TheVariants.{NullNotAllowed, WrongValue, WrongLength, UnknownTypeId, NullEntry, VariantNull}
use Rattle.vortex_dtype.specs.declared.error.Step.{Step}
use Rattle.vortex_dtype.specs.declared.error.Step.TheVariants.{Element, Entry, Key, Value, Field, Child, Inner}
use Rattle.vortex_dtype.specs.declared.error.VortexError.{VortexError}
use Rattle.vortex_dtype.specs.declared.error.VortexError.TheVariants.{OutOfMemory, Invalid}
use Rattle.vortex_pvalue.specs.Numbers.{in_range}
use Rattle.vortex_value.specs.Values.RawTree.{RawTree, absent, raw_bool, raw_integer, raw_text, raw_bytes, raw_tuple, raw_union, raw_variant, RawTrees, no_raws, raw_then, count, is_absent}
use Rattle.vortex_value.specs.Validity.{type_with, Valid}

-- a path and what is wrong at its end
abbrev pub Found : Type 0
Found = List Step × Breach

-- a breach of the node itself, which then lists no breach below it
abbrev pub here : Breach → List Found
here breach = ([], breach) ∷ []

-- the breaches of a part, seen from the whole
abbrev pub under : Step → List Found → List Found
under step [] = []
under step (f ∷ fs) = (step ∷ f.0, f.1) ∷ under step fs

-- whether there is no breach
abbrev pub is_empty : List Found → Bool
is_empty [] = true
is_empty (f ∷ fs) = false

-- the first breach
abbrev pub first : List Found → Option Found
first [] = None
first (f ∷ fs) = Some f

-- how many types
abbrev pub count_types : TypeTrees → ℕ
count_types no_types = 0
count_types (type_then t ts) = suc (count_types ts)

-- whether the type is Null
abbrev pub is_null_type : TypeTree → Bool
is_null_type null_type = true
is_null_type _ = false

-- the breaches of a union's child, for the type that the id gives
abbrev pub child_breaches : Option TypeTree → (TypeTree → List Found) → List Found
child_breaches None below = here UnknownTypeId
child_breaches (Some t) below = under Child (below t)

-- for a type that is no extension
abbrev mutual
  pub breaches_at : TypeTree → RawTree → List Found
  breaches_at t absent = if is_nullable t then [] else here NullNotAllowed
  breaches_at (bool_type n) (raw_bool b) = []
  breaches_at (utf8_type n) (raw_text bs) = []
  breaches_at (binary_type n) (raw_bytes bs) = []
  breaches_at (integer_type k n) (raw_integer l z) = if same_ptype l k && in_range k z then [] else here WrongValue
  breaches_at (list_type e n) (raw_tuple vs) = element_breaches e 0 vs
  breaches_at (fixed_size_list_type e size n) (raw_tuple vs) = if count vs == size then element_breaches e 0 vs else here WrongLength
  breaches_at (map_type k w sorted n) (raw_tuple vs) = entry_breaches k w 0 vs
  breaches_at (struct_type names ts n) (raw_tuple vs) = if count vs == count_types ts then field_breaches 0 ts vs else here WrongLength
  breaches_at (union_type names ts ids n) (raw_union id v) = child_breaches (type_with id ids ts) (λ t. breaches_at (storage t) v)
  breaches_at (variant_type n) (raw_variant t v) =
      if is_absent v && not (is_null_type t) then here VariantNull else under Inner (breaches_at (storage t) v)
  breaches_at _ _ = here WrongValue

  -- of the elements from place i on
  pub element_breaches : TypeTree → ℕ → RawTrees → List Found
  element_breaches e i no_raws = []
  element_breaches e i (raw_then v vs) = under (Element i) (breaches_at (storage e) v) ++ element_breaches e (suc i) vs

  -- of the entries from place i on
  pub entry_breaches : TypeTree → TypeTree → ℕ → RawTrees → List Found
  entry_breaches k w i no_raws = []
  entry_breaches k w i (raw_then v vs) = under (Entry i) (breaches_of_entry k w v) ++ entry_breaches k w (suc i) vs

  -- of one entry: it is present, and a pair of a key and a value
  pub breaches_of_entry : TypeTree → TypeTree → RawTree → List Found
  breaches_of_entry k w absent = here NullEntry
  breaches_of_entry k w (raw_tuple (raw_then x (raw_then y no_raws))) = under Key (breaches_at (storage k) x) ++ under Value (breaches_at (storage w) y)
  breaches_of_entry k w (raw_tuple vs) = here WrongLength
  breaches_of_entry k w _ = here WrongValue

  -- of the fields from place i on
  pub field_breaches : ℕ → TypeTrees → RawTrees → List Found
  field_breaches i (type_then t ts) (raw_then v vs) = under (Field i) (breaches_at (storage t) v) ++ field_breaches (suc i) ts vs
  field_breaches i _ _ = []

-- all breaches of an optional raw value, a node before its parts; an extension adds no step
abbrev pub breaches : TypeTree → RawTree → List Found
breaches t v = breaches_at (storage t) v

-- whether the raw value is valid for the type: it has no breach
abbrev pub is_valid : TypeTree → RawTree → Bool
is_valid t v = is_empty (breaches t v)

-- there is a breach, and the path to it has steps
abbrev pub HasSteps : Option Found → Type 0
HasSteps None = ⊥
HasSteps (Some f) = f.0 ≢ []

-- a refusal shows the first breach, or there was no memory for the steps to it
abbrev pub Refuses : VortexError → List Found → Type 0
Refuses (Invalid path breach) fs = first fs ≡ Some (path, breach)
Refuses OutOfMemory fs = HasSteps (first fs)
Refuses _ fs = ⊥

-- A raw value is valid exactly if it has no breach.
abbrev pub ValidExactlyWithoutBreach : Type 0
ValidExactlyWithoutBreach = (t : TypeTree) (v : RawTree) → Valid t v ↔ (breaches t v ≡ [])

-- The test of validity passes exactly if the raw value is valid.
abbrev pub ValidityIsDecided : Type 0
ValidityIsDecided = (t : TypeTree) (v : RawTree) → IsTrue (is_valid t v) ↔ Valid t v
