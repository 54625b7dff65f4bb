-- Steps of the test for a variant's child.
use Rattle.std.proofs.Common.{◌≡◌, ◌||◌, ◌<◌, ◌≤◌, ℕ, zero, suc, ◌+◌, List, [], ◌∷◌, length, drop, get_or, map, Option, Bool, true, false, refl, sym, subst, ap, ◌∙◌, arith, true≢false}
use Rattle.std.specs.Prelude.{Err, IfErr, IsErr, Ok, Result}
use Rattle.std.specs.List.{All}
use Rattle.std.specs.Result.{IsErrAnd}
use Rattle.std.proofs.lemmas.List.{drop_all, drop_more}
use Rattle.std.proofs.lemmas.List.Elements.{All-cons, All-head, All-nil, All-same, All-tail}
use Rattle.vortex_dtype.specs.TypeTree.{TypeTree}
use Rattle.vortex_value.specs.Equality.{HasNoTyped, HaveNoTyped}
use Rattle.vortex_value.specs.TypesWithin.{HasNoVariant}
use Rattle.vortex_value.specs.Values.Content.{Content, content, contents, null, truth, whole, text, string, sequence, tagged, typed, Contents, no_contents, content_then}
use Rattle.vortex_value.specs.Values.RawOf.{raw_of, value_trees}
use Rattle.vortex_value.specs.Values.Refs.{ref_content, ref_type}
use Rattle.vortex_value.specs.declared.refs.ScalarRef.{ScalarRef}
use Rattle.vortex_value.specs.declared.values.ScalarValue.{ScalarValue}
use Rattle.vortex_value.proofs.ValueSteps.{value_tree-Tuple, value_tree-Union, value_tree-Variant, variant_tree-parts}
use Rattle.vortex_row.specs.Typed.{HasKey, has_typed, have_typed}
use Rattle.vortex_row.specs.declared.error.RowError.{RowError}
use Rattle.vortex_row.specs.declared.error.RowError.TheVariants.{HasVariant}
use Rattle.vortex_row.proofs.LengthSteps.{union-content}

-- ---- the walk

-- the part at a place, and the rest
pub have_typed-at : (i : ℕ) (vs : List (Option ScalarValue)) (v : Option ScalarValue) → i < length vs → v ≡ get_or vs i v
    → have_typed (contents (value_trees (drop i vs))) ≡ (has_typed (content (raw_of v)) || have_typed (contents (value_trees (drop (i + 1) vs))))
have_typed-at i vs v h is = rw (drop_more vs i v h, ← is) refl

or_false : (b c : Bool) → b ≡ false → (b || c) ≡ c
or_false b c h = rw h refl

pub rest-decides : (i : ℕ) (vs : List (Option ScalarValue)) (v : Option ScalarValue) (b c : Bool) → i < length vs → v ≡ get_or vs i v → b ≡ has_typed (content (raw_of v)) → b ≡ false
    → have_typed (contents (value_trees (drop i vs))) ≡ c → have_typed (contents (value_trees (drop (i + 1) vs))) ≡ c
rest-decides i vs v b c less is e f h =
    sym (or_false (has_typed (content (raw_of v))) (have_typed (contents (value_trees (drop (i + 1) vs)))) (sym e ∙ f)) ∙ sym (have_typed-at i vs v less is) ∙ h

pub ruleset shown = (have_typed-at, value_tree-Tuple, value_tree-Union, value_tree-Variant, variant_tree-parts, union-content)

-- ---- the test is the one of `HasNoTyped`

or_both : (b c : Bool) → (b || c) ≡ false → (b ≡ false) × (c ≡ false)
or_both false c h = (refl, h)
or_both true c h = cc

mutual
  pub untyped-from_test : (c : Content) → has_typed c ≡ false → HasNoTyped c
  untyped-from_test null h = tt
  untyped-from_test (truth b) h = tt
  untyped-from_test (whole z) h = tt
  untyped-from_test (text bs) h = tt
  untyped-from_test (string bs) h = tt
  untyped-from_test (sequence cs) h = untyped-from_tests cs h
  untyped-from_test (tagged id c) h = untyped-from_test c h
  untyped-from_test (typed t c) h = cc

  untyped-from_tests : (cs : Contents) → have_typed cs ≡ false → HaveNoTyped cs
  untyped-from_tests no_contents h = tt
  untyped-from_tests (content_then c cs) h = let both = or_both (has_typed c) (have_typed cs) h in (untyped-from_test c both.0, untyped-from_tests cs both.1)

mutual
  test-from_untyped : (c : Content) → HasNoTyped c → has_typed c ≡ false
  test-from_untyped null h = refl
  test-from_untyped (truth b) h = refl
  test-from_untyped (whole z) h = refl
  test-from_untyped (text bs) h = refl
  test-from_untyped (string bs) h = refl
  test-from_untyped (sequence cs) h = tests-from_untyped cs h
  test-from_untyped (tagged id c) h = test-from_untyped c h
  test-from_untyped (typed t c) h = absurd h

  tests-from_untyped : (cs : Contents) → HaveNoTyped cs → have_typed cs ≡ false
  tests-from_untyped no_contents h = refl
  tests-from_untyped (content_then c cs) h = or_false (has_typed c) (have_typed cs) (test-from_untyped c h.0) ∙ tests-from_untyped cs h.1

-- a child that was found
pub found-typed : (c : Content) → has_typed c ≡ true → ¬ (HasNoTyped c)
found-typed c h n = true≢false (sym h ∙ test-from_untyped c n)

pub ruleset decided = (untyped-from_test, found-typed)

-- ---- what has a key

pub key-of : (t : TypeTree) (c : Content) → HasNoVariant t → HasNoTyped c → HasKey t c
key-of t c h g = record { ordered = h; untyped = g }

pub no_key-by_type : (t : TypeTree) (c : Content) → ¬ (HasNoVariant t) → ¬ (HasKey t c)
no_key-by_type t c h k = h k.ordered

pub no_key-by_content : (t : TypeTree) (c : Content) → ¬ (HasNoTyped c) → ¬ (HasKey t c)
no_key-by_content t c h k = h k.untyped

pub ruleset keyed = (key-of, no_key-by_type, no_key-by_content)

-- ---- rows

-- of all values, if of the rest
pub all-at : (P : ScalarRef → Type 0) (i : ℕ) (xs : List ScalarRef) (x : ScalarRef) → i < length xs → x ≡ get_or xs i x → P x → All P (drop (i + 1) xs) → All P (drop i xs)
all-at P i xs x h is here rest = All-same P (drop i xs) (x ∷ drop (i + 1) xs) (drop_more xs i x h ∙ ap (λ y. y ∷ drop (i + 1) xs) (sym is)) (All-cons P x (drop (i + 1) xs) here rest)

pub all-end : (P : ScalarRef → Type 0) (i : ℕ) (xs : List ScalarRef) → length xs ≤ i → All P (drop i xs)
all-end P i xs h = All-same P (drop i xs) [] (drop_all i xs h) (All-nil P)

-- of the one at a place, if of all
untyped-in : (i : ℕ) (xs : List ScalarRef) (x : ScalarRef) → i < length xs → x ≡ get_or xs i x → All HasNoTyped (map ref_content xs) → HasNoTyped (ref_content x)
untyped-in i [] x h is all = absurd (omega arith)
untyped-in zero (y ∷ xs) x h is all = subst (λ z. HasNoTyped (ref_content z)) (sym is) (All-head HasNoTyped (ref_content y) (map ref_content xs) all)
untyped-in (suc i) (y ∷ xs) x h is all = untyped-in i xs x (omega arith) is (All-tail HasNoTyped (ref_content y) (map ref_content xs) all)

-- one with a variant's child refuses all
pub typed-passed_on : {A : Type 0} (i : ℕ) (xs : List ScalarRef) (x : ScalarRef) (r : Result A RowError) (e : RowError) → IsErr r × IsErrAnd r (λ f. f ≡ e) → i < length xs → x ≡ get_or xs i x
    → (e ≡ HasVariant) × ¬ (HasNoTyped (ref_content x)) → IfErr r (λ f. (f ≡ HasVariant) × ¬ (All HasNoTyped (map ref_content xs)))
typed-passed_on i xs x (Ok v) e h less is g = absurd (true≢false (sym h.0))
typed-passed_on i xs x (Err f) e h less is g = (h.1 ∙ g.0, λ all. g.1 (untyped-in i xs x less is all))

abbrev HasRefKey : ScalarRef → Type 0
HasRefKey x = HasKey (ref_type x) (ref_content x)

-- contents and types of which each has a key
pub contents-untyped : (xs : List ScalarRef) → All (λ x. HasKey (ref_type x) (ref_content x)) xs → All HasNoTyped (map ref_content xs)
contents-untyped [] h = All-nil HasNoTyped
contents-untyped (x ∷ xs) h = All-cons HasNoTyped (ref_content x) (map ref_content xs) (All-head HasRefKey x xs h).untyped (contents-untyped xs (All-tail HasRefKey x xs h))

pub types-ordered : (xs : List ScalarRef) → All (λ x. HasKey (ref_type x) (ref_content x)) xs → All (λ x. HasNoVariant (ref_type x)) xs
types-ordered [] h = All-nil (λ x. HasNoVariant (ref_type x))
types-ordered (x ∷ xs) h = All-cons (λ x. HasNoVariant (ref_type x)) x xs (All-head HasRefKey x xs h).ordered (types-ordered xs (All-tail HasRefKey x xs h))

pub ruleset rows = (contents-untyped, types-ordered)
