-- A raw value is valid exactly where it has no breach.
use Rattle.std.proofs.Common.{◌≡◌, ◌↔◌, ℕ, suc, ℤ, Bool, true, false, ◌&&◌, not, ◌==◌, if◌then◌else◌, List, [], ◌∷◌, ◌++◌, Option, Some, None, Global, IsTrue, refl, sym, ap, arith, true≢false}
use Rattle.std.specs.Bool.{Decides}
use Rattle.std.specs.Option.{is_some}
use Rattle.std.proofs.Math.Nat.{suc-ne-zero}
use Rattle.std.proofs.lemmas.Bool.{and_parts, false_from_ne_true}
use Rattle.std.proofs.lemmas.Bool.Decides.{Decides-eqb}
use Rattle.vortex_dtype.specs.PTypes.{same_ptype}
use Rattle.vortex_dtype.specs.Lemmas.TypeLaws.{same_ptype-Decides}
use Rattle.vortex_dtype.specs.TypeTree.{TypeTree, null_type, bool_type, integer_type, utf8_type, binary_type, list_type, fixed_size_list_type, map_type, struct_type, union_type, variant_type, TypeTrees, no_types, type_then, nullability_of, says_nullable, IsNullable, is_nullable, storage}
use Rattle.vortex_dtype.specs.declared.error.Breach.TheVariants.{VariantNull}
use Rattle.vortex_dtype.specs.declared.error.Step.{Step}
use Rattle.vortex_dtype.specs.declared.error.Step.TheVariants.{Child, Inner}
use Rattle.vortex_dtype.specs.declared.nullability.Nullability.{Nullability}
use Rattle.vortex_dtype.specs.declared.nullability.Nullability.TheVariants.{NonNullable, Nullable}
use Rattle.vortex_dtype.specs.declared.ptype.PType.{PType}
use Rattle.vortex_pvalue.specs.Numbers.{InRange, in_range}
use Rattle.vortex_pvalue.specs.RangeLaws.{in_range_true, in_range_back}
use Rattle.vortex_value.specs.Breaches.{Found, here, under, count_types, is_empty, is_null_type, child_breaches, breaches_at, element_breaches, entry_breaches, field_breaches, breaches, is_valid, ValidExactlyWithoutBreach, ValidityIsDecided}
use Rattle.vortex_value.specs.Steps.Faults.{Checks}
use Rattle.vortex_value.specs.Values.RawTree.{RawTree, absent, raw_bool, raw_integer, raw_text, raw_bytes, raw_tuple, raw_union, raw_variant, RawTrees, no_raws, raw_then, count, is_absent}
use Rattle.vortex_value.specs.Validity.{type_with, HasType, MayBeInside, ValidAt, EachValid, EntriesValid, FieldsValid, Valid}
use Rattle.vortex_value.specs.declared.validate.Trace.{Trace}
use Rattle.vortex_value.proofs.ValidSteps.{Shows-some}

-- lists of breaches

when_none : (b : Bool) (f : Found) (fs : List Found) → (if b then [] else (f ∷ fs)) ≡ [] → b ≡ true
when_none true f fs h = refl
when_none false f fs h = cc

none_under : (s : Step) (fs : List Found) → under s fs ≡ [] → fs ≡ []
none_under s [] h = refl
none_under s (f ∷ fs) h = cc

none_left : (fs gs : List Found) → fs ++ gs ≡ [] → fs ≡ []
none_left [] gs h = refl
none_left (f ∷ fs) gs h = cc

none_right : (fs gs : List Found) → fs ++ gs ≡ [] → gs ≡ []
none_right [] gs h = h
none_right (f ∷ fs) gs h = cc

none_first : (s : Step) (fs gs : List Found) → under s fs ++ gs ≡ [] → fs ≡ []
none_first s fs gs h = none_under s fs (none_left (under s fs) gs h)

both_none : (s : Step) (fs gs : List Found) → fs ≡ [] → gs ≡ [] → under s fs ++ gs ≡ []
both_none s fs gs p q = rw (p, q)

-- what the tests of a node say

integer_valid : (k l : PType) (z : ℤ) (fs : List Found) (f : Found) → (if same_ptype l k && in_range k z then [] else (f ∷ fs)) ≡ [] → (l ≡ k) × InRange k z
integer_valid k l z fs f h = let p = and_parts (same_ptype l k) (in_range k z) (when_none (same_ptype l k && in_range k z) f fs h) in ((same_ptype-Decides l k).0 p.0, in_range_back k z p.1)

integer_none : (k l : PType) (z : ℤ) (fs : List Found) → l ≡ k → InRange k z → (if same_ptype l k && in_range k z then [] else fs) ≡ []
integer_none k l z fs p q = rw ((same_ptype-Decides l k).1 p, in_range_true k z q)

-- a type that says that it takes nulls is nullable
pub says_nullable-Decides : (n : Nullability) → Decides (says_nullable n) (n ≡ Nullable)
says_nullable-Decides Nullable = (λ h. refl, λ h. refl)
says_nullable-Decides NonNullable = (λ h. cc, λ h. cc)

null_valid : (t : TypeTree) (f : Found) (fs : List Found) → (if is_nullable t then [] else (f ∷ fs)) ≡ [] → IsNullable t
null_valid t f fs h = (says_nullable-Decides (nullability_of t)).0 (when_none (is_nullable t) f fs h)

null_none : (t : TypeTree) (fs : List Found) → IsNullable t → (if is_nullable t then [] else fs) ≡ []
null_none t fs h = rw h

lengths : (m n : ℕ) (f : Found) (fs gs : List Found) → (if m == n then fs else (f ∷ gs)) ≡ [] → (m ≡ n) × (fs ≡ [])
lengths m n f fs gs h = by_test (m == n) refl h where
  by_test : (b : Bool) → (m == n) ≡ b → (if b then fs else (f ∷ gs)) ≡ [] → (m ≡ n) × (fs ≡ [])
  by_test true e h = ((Decides-eqb m n).0 e, h)
  by_test false e h = cc

lengths_none : (m n : ℕ) (fs gs : List Found) → m ≡ n → fs ≡ [] → (if m == n then fs else gs) ≡ []
lengths_none m n fs gs p q = let e = (Decides-eqb m n).1 p in rw (e, q)

child_valid : (f : TypeTree → List Found) (p : TypeTree → Type 0) → ((t : TypeTree) → f t ≡ [] → p t) → (o : Option TypeTree) → child_breaches o f ≡ [] → HasType o p
child_valid f p each None h = cc
child_valid f p each (Some t) h = each t (none_under Child (f t) h)

child_none : (f : TypeTree → List Found) (p : TypeTree → Type 0) → ((t : TypeTree) → p t → f t ≡ []) → (o : Option TypeTree) → HasType o p → child_breaches o f ≡ []
child_none f p each None h = absurd h
child_none f p each (Some t) h = rw (each t h)

is_null : (t : TypeTree) → is_null_type t ≡ true → t ≡ null_type
is_null null_type h = refl
is_null _ h = absurd (true≢false (sym h))

may_be_inside : (t : TypeTree) (v : RawTree) → (is_absent v ≡ true → is_null_type t ≡ true) → MayBeInside t v
may_be_inside t absent h = is_null t (h refl)
may_be_inside t _ h = tt

inside_null : (t : TypeTree) (v : RawTree) → MayBeInside t v → is_absent v ≡ true → is_null_type t ≡ true
inside_null t absent h a = ap is_null_type h
inside_null t _ h a = absurd (true≢false (sym a))

inside : (a n : Bool) (fs : List Found) → (if a && not n then here VariantNull else under Inner fs) ≡ [] → (a ≡ true → n ≡ true) × (fs ≡ [])
inside true true fs h = (λ _. refl, none_under Inner fs h)
inside true false fs h = cc
inside false n fs h = (λ e. absurd (true≢false (sym e)), none_under Inner fs h)

inside_none : (a n : Bool) (fs : List Found) → (a ≡ true → n ≡ true) → fs ≡ [] → (if a && not n then here VariantNull else under Inner fs) ≡ []
inside_none true n fs p q = rw (p refl, q)
inside_none false n fs p q = rw q

FieldsValid-count : (ts : TypeTrees) (vs : RawTrees) → FieldsValid ts vs → count vs ≡ count_types ts
FieldsValid-count no_types no_raws h = refl
FieldsValid-count (type_then t ts) (raw_then v vs) h = ap suc (FieldsValid-count ts vs h.1)
FieldsValid-count _ _ h = absurd h

entry_none : (k w : TypeTree) (i : ℕ) (x y : RawTree) (vs : RawTrees) → breaches_at (storage k) x ≡ [] → breaches_at (storage w) y ≡ [] → entry_breaches k w (suc i) vs ≡ []
    → entry_breaches k w i (raw_then (raw_tuple (raw_then x (raw_then y no_raws))) vs) ≡ []
entry_none k w i x y vs p q r = rw (p, q, r)

-- where no breach is, the value is valid
mutual
  ValidAt-from_none : (t : TypeTree) (v : RawTree) → breaches_at t v ≡ [] → ValidAt t v
  ValidAt-from_none t absent h = null_valid t _ _ h
  ValidAt-from_none (bool_type n) (raw_bool b) h = tt
  ValidAt-from_none (utf8_type n) (raw_text bs) h = tt
  ValidAt-from_none (binary_type n) (raw_bytes bs) h = tt
  ValidAt-from_none (integer_type k n) (raw_integer l z) h = integer_valid k l z _ _ h
  ValidAt-from_none (list_type e n) (raw_tuple vs) h = EachValid-from_none e 0 vs h
  ValidAt-from_none (fixed_size_list_type e size n) (raw_tuple vs) h =
      let p = lengths (count vs) size _ (element_breaches e 0 vs) _ h in (p.0, EachValid-from_none e 0 vs p.1)
  ValidAt-from_none (map_type k w sorted n) (raw_tuple vs) h = EntriesValid-from_none k w 0 vs h
  ValidAt-from_none (struct_type names ts n) (raw_tuple vs) h =
      let p = lengths (count vs) (count_types ts) _ (field_breaches 0 ts vs) _ h in FieldsValid-from_none 0 ts vs p.0 p.1
  ValidAt-from_none (union_type names ts ids n) (raw_union id v) h =
      child_valid (λ t. breaches_at (storage t) v) (λ t. ValidAt (storage t) v) (λ t. ValidAt-from_none (storage t) v) (type_with id ids ts) h
  ValidAt-from_none (variant_type n) (raw_variant t v) h =
      let p = inside (is_absent v) (is_null_type t) (breaches_at (storage t) v) h in
      (may_be_inside t v p.0, ValidAt-from_none (storage t) v p.1)
  ValidAt-from_none _ _ h = cc

  EachValid-from_none : (e : TypeTree) (i : ℕ) (vs : RawTrees) → element_breaches e i vs ≡ [] → EachValid e vs
  EachValid-from_none e i no_raws h = tt
  EachValid-from_none e i (raw_then v vs) h =
      (ValidAt-from_none (storage e) v (none_first _ _ _ h), EachValid-from_none e (suc i) vs (none_right _ _ h))

  EntriesValid-from_none : (k w : TypeTree) (i : ℕ) (vs : RawTrees) → entry_breaches k w i vs ≡ [] → EntriesValid k w vs
  EntriesValid-from_none k w i no_raws h = tt
  EntriesValid-from_none k w i (raw_then (raw_tuple (raw_then x (raw_then y no_raws))) vs) h =
      let entry = none_first _ _ _ h in (
        ValidAt-from_none (storage k) x (none_first _ _ _ entry),
        ValidAt-from_none (storage w) y (none_under _ _ (none_right _ _ entry)),
        EntriesValid-from_none k w (suc i) vs (none_right _ _ h),
      )
  EntriesValid-from_none k w i _ h = cc

  FieldsValid-from_none : (i : ℕ) (ts : TypeTrees) (vs : RawTrees) → count vs ≡ count_types ts → field_breaches i ts vs ≡ [] → FieldsValid ts vs
  FieldsValid-from_none i no_types no_raws c h = tt
  FieldsValid-from_none i (type_then t ts) (raw_then v vs) c h =
      (ValidAt-from_none (storage t) v (none_first _ _ _ h), FieldsValid-from_none (suc i) ts vs (omega arith) (none_right _ _ h))
  FieldsValid-from_none i no_types (raw_then v vs) c h = absurd (suc-ne-zero _ c)
  FieldsValid-from_none i (type_then t ts) no_raws c h = absurd (suc-ne-zero _ (sym c))

-- a valid value has no breach
mutual
  none-from_ValidAt : (t : TypeTree) (v : RawTree) → ValidAt t v → breaches_at t v ≡ []
  none-from_ValidAt t absent h = null_none t _ h
  none-from_ValidAt (bool_type n) (raw_bool b) h = refl
  none-from_ValidAt (utf8_type n) (raw_text bs) h = refl
  none-from_ValidAt (binary_type n) (raw_bytes bs) h = refl
  none-from_ValidAt (integer_type k n) (raw_integer l z) h = integer_none k l z _ h.0 h.1
  none-from_ValidAt (list_type e n) (raw_tuple vs) h = none-from_EachValid e 0 vs h
  none-from_ValidAt (fixed_size_list_type e size n) (raw_tuple vs) h = lengths_none (count vs) size _ _ h.0 (none-from_EachValid e 0 vs h.1)
  none-from_ValidAt (map_type k w sorted n) (raw_tuple vs) h = none-from_EntriesValid k w 0 vs h
  none-from_ValidAt (struct_type names ts n) (raw_tuple vs) h =
      lengths_none (count vs) (count_types ts) _ _ (FieldsValid-count ts vs h) (none-from_FieldsValid 0 ts vs h)
  none-from_ValidAt (union_type names ts ids n) (raw_union id v) h =
      child_none (λ t. breaches_at (storage t) v) (λ t. ValidAt (storage t) v) (λ t. none-from_ValidAt (storage t) v) (type_with id ids ts) h
  none-from_ValidAt (variant_type n) (raw_variant t v) h =
      inside_none (is_absent v) (is_null_type t) (breaches_at (storage t) v) (inside_null t v h.0) (none-from_ValidAt (storage t) v h.1)
  none-from_ValidAt _ _ h = absurd h

  none-from_EachValid : (e : TypeTree) (i : ℕ) (vs : RawTrees) → EachValid e vs → element_breaches e i vs ≡ []
  none-from_EachValid e i no_raws h = refl
  none-from_EachValid e i (raw_then v vs) h = both_none _ _ _ (none-from_ValidAt (storage e) v h.0) (none-from_EachValid e (suc i) vs h.1)

  none-from_EntriesValid : (k w : TypeTree) (i : ℕ) (vs : RawTrees) → EntriesValid k w vs → entry_breaches k w i vs ≡ []
  none-from_EntriesValid k w i no_raws h = refl
  none-from_EntriesValid k w i (raw_then (raw_tuple (raw_then x (raw_then y no_raws))) vs) h =
      entry_none k w i x y vs (none-from_ValidAt (storage k) x h.0) (none-from_ValidAt (storage w) y h.1) (none-from_EntriesValid k w (suc i) vs h.2)
  none-from_EntriesValid k w i _ h = absurd h

  none-from_FieldsValid : (i : ℕ) (ts : TypeTrees) (vs : RawTrees) → FieldsValid ts vs → field_breaches i ts vs ≡ []
  none-from_FieldsValid i no_types no_raws h = refl
  none-from_FieldsValid i (type_then t ts) (raw_then v vs) h = both_none _ _ _ (none-from_ValidAt (storage t) v h.0) (none-from_FieldsValid (suc i) ts vs h.1)
  none-from_FieldsValid i _ _ h = absurd h

-- a raw value is valid exactly where it has no breach
pub valid_exactly_without_breach : ValidExactlyWithoutBreach
valid_exactly_without_breach t v = (none-from_ValidAt (storage t) v, ValidAt-from_none (storage t) v)

-- its test passes exactly there
pub validity_is_decided : ValidityIsDecided
validity_is_decided t v =
    let law = valid_exactly_without_breach t v in
    (λ h. law.1 (none_from_test _ h), λ h. test_from_none _ (law.0 h))
  where
    none_from_test : (fs : List Found) → IsTrue (is_empty fs) → fs ≡ []
    none_from_test [] h = refl
    none_from_test (f ∷ fs) h = cc

    test_from_none : (fs : List Found) → fs ≡ [] → IsTrue (is_empty fs)
    test_from_none [] h = refl
    test_from_none (f ∷ fs) h = cc

-- another test that passes exactly for valid values is that test
pub is_valid-only : (t : TypeTree) (v : RawTree) (b : Bool) → (IsTrue b ↔ Valid t v) → is_valid t v ≡ b
is_valid-only t v true h = (validity_is_decided t v).1 (h.0 refl)
is_valid-only t v false h = false_from_ne_true _ (λ valid. true≢false (sym (h.1 ((validity_is_decided t v).0 valid))))

-- a check passes exactly the valid values
pub Checks-valid : (path : Option Global) (r : Bool) (trace : Trace) (t : TypeTree) (v : RawTree) → Checks path r trace (breaches t v) → IsTrue r ↔ Valid t v
Checks-valid path true trace t v h = (λ _. ValidAt-from_none (storage t) v h.1, λ _. refl)
Checks-valid path false trace t v h = (λ passes. absurd (true≢false (sym passes)), λ valid. absurd (Shows-some (is_some path) trace.fault _ h (none-from_ValidAt (storage t) v valid)))
