-- The tests of a formula with parts, and what refuses one of them.
use Rattle.std.proofs.Common.{◌≡◌, ◌↔◌, ℕ, ◌+◌, Bool, true, false, ◌&&◌, cond, List, [], ◌∷◌, ◌++◌, length, Option, Some, None, Result, Ok, Err, IsOk, IfErr, MatchResult, append_assoc, length-append, refl, sym, subst, ap, ◌∙◌, arith, true≢false}
use Rattle.std.specs.List.{AllByRecursion, list_all, slice_get}
use Rattle.std.specs.Option.{IsSomeAnd}
use Rattle.std.proofs.lemmas.Bool.{false≢true}
use Rattle.std.proofs.lemmas.Option.{none-some, same_Some}
use Rattle.vortex_dtype.specs.Parts.{is_utf8_type}
use Rattle.vortex_dtype.specs.TypeTree.{TypeTree, Same, utf8_type, binary_type}
use Rattle.vortex_value.specs.Equality.{same_type}
use Rattle.vortex_value.specs.Lemmas.EqualityLaws.{same_type-Decides}
use Rattle.vortex_value.specs.Size.{capped}
use Rattle.vortex_cells.specs.Cells.{Cell}
use Rattle.vortex_filter.specs.declared.error.FilterError.{FilterError}
use Rattle.vortex_filter.specs.declared.error.FilterError.TheVariants.{OutOfMemory, NoColumn, HasVariant, TypesDiffer}
use Rattle.vortex_filter.specs.CheckSteps.{answer_of_both, behind, checked, checked_test, holds_strings, lacks_order, suits}
use Rattle.vortex_filter.specs.Checking.{AllFit, Demand, Fits, FitsColumns, HoldsStrings, HoldsText, IsOfType, IsOrderedFor, Refuses, RefusesFirst, Suits, Test, beginning, comparing, matching, nothing, tests}
use Rattle.vortex_filter.specs.Formula.{Formula, constant, comparison, null_test, membership, range, prefix_test, pattern_test, both, either, negation}
use Rattle.vortex_cells.proofs.VariantSteps.{none-from_test, test-from_none}

-- ---- counts

pub capped_sum : (m n : ℕ) → capped (capped m + capped n) ≡ capped (m + n)
capped_sum m n = omega arith

-- ---- several tests

module _ {X : Type 0} (P : TypeTree → X → Type 0) (columns : List TypeTree) where
  pub fit_both : (ps qs : List (Test X)) → AllFit P columns ps → AllFit P columns qs → AllFit P columns (ps ++ qs)
  fit_both [] qs h k = k
  fit_both (p ∷ ps) qs h k = (h.0, fit_both ps qs h.1 k)

  -- the first of the front is the first
  pub refuses_front : (ps qs : List (Test X)) (e : FilterError) → RefusesFirst P columns ps e → RefusesFirst P columns (ps ++ qs) e
  refuses_front ps qs e r = record {
    before = r.before;
    test = r.test;
    after = r.after ++ qs;
    parts = ap (λ ts. ts ++ qs) r.parts ∙ append_assoc r.before (r.test ∷ r.after) qs;
    fit = r.fit;
    cause = r.cause;
  }

  moved : (count : ℕ) (front number : ℕ) (test : Test X) (e : FilterError) → count ≡ capped front → Refuses P columns (capped number) test e → Refuses P columns (capped (front + number)) test (behind count e)
  moved count front number test OutOfMemory h r = absurd r
  moved count front number test (NoColumn n k) h r = (ap capped (ap (λ m. m + n) h ∙ ap (λ m. capped front + m) r.0) ∙ capped_sum front number, r.1, r.2)
  moved count front number test (HasVariant n k) h r = (ap capped (ap (λ m. m + n) h ∙ ap (λ m. capped front + m) r.0) ∙ capped_sum front number, r.1, r.2)
  moved count front number test (TypesDiffer n k) h r = (ap capped (ap (λ m. m + n) h ∙ ap (λ m. capped front + m) r.0) ∙ capped_sum front number, r.1, r.2)

  -- if each of the front fits, the first of the rest is the first
  pub refuses_behind : (ps qs : List (Test X)) (count : ℕ) (e : FilterError) → count ≡ capped (length ps) → AllFit P columns ps → RefusesFirst P columns qs e → RefusesFirst P columns (ps ++ qs) (behind count e)
  refuses_behind ps qs count e h k r = record {
    before = ps ++ r.before;
    test = r.test;
    after = r.after;
    parts = ap (λ ts. ps ++ ts) r.parts ∙ sym (append_assoc ps r.before (r.test ∷ r.after));
    fit = fit_both ps r.before k r.fit;
    cause = subst (λ (n : ℕ). Refuses P columns (capped n) r.test (behind count e)) (sym (length-append ps r.before)) (moved count (length ps) (length r.before) r.test e h r.cause);
  }

  -- ---- a test that fits is refused for nothing

  same_column : (Q : TypeTree → Type 0) (o : Option TypeTree) (t : TypeTree) → o ≡ Some t → IsSomeAnd o Q → Q t
  same_column Q None t e h = absurd h
  same_column Q (Some s) t e h = subst Q (same_Some s t e) h

  never_refused : (number : ℕ) (test : Test X) (e : FilterError) → Fits P columns test → Refuses P columns number test e → ⊥
  never_refused number test OutOfMemory f r = r
  never_refused number test (NoColumn n k) f r = none-some f.dtype (sym r.2 ∙ f.there)
  never_refused number test (HasVariant n k) f r = same_column (λ t. ¬ (IsOrderedFor test.demand t)) (slice_get columns test.column) f.dtype f.there r.2 f.ordered
  never_refused number test (TypesDiffer n k) f r = (same_column (λ t. IsOrderedFor test.demand t × ¬ (Suits P test.demand t)) (slice_get columns test.column) f.dtype f.there r.2).1 f.suits

  fit_in : (before : List (Test X)) (test : Test X) (after : List (Test X)) → AllFit P columns (before ++ test ∷ after) → Fits P columns test
  fit_in [] test after h = h.0
  fit_in (t ∷ before) test after h = fit_in before test after h.1

  pub not_both : (ts : List (Test X)) (e : FilterError) → AllFit P columns ts → RefusesFirst P columns ts e → ⊥
  not_both ts e h r = never_refused (capped (length r.before)) r.test e (fit_in r.before r.test r.after (subst (AllFit P columns) r.parts h)) r.cause

  -- ---- one test

  pub fit_one : (k : ℕ) (d : Demand X) (t : TypeTree) → slice_get columns k ≡ Some t → IsOrderedFor d t → Suits P d t → AllFit P columns (record { column = k; demand = d } ∷ [])
  fit_one k d t e o s = (record { dtype = t; there = e; ordered = o; suits = s }, tt)

  pub refuses_one : (k : ℕ) (d : Demand X) (e : FilterError) → Refuses P columns 0 (record { column = k; demand = d }) e → RefusesFirst P columns (record { column = k; demand = d } ∷ []) e
  refuses_one k d e r = record { before = []; test = record { column = k; demand = d }; after = []; parts = refl; fit = tt; cause = r }

-- ---- what the code answers

-- a filter with these tests is taken if each fits, and else refused for the first that does not
abbrev pub Answers : {T : Type 0} → (TypeTree → Cell → Type 0) → List TypeTree → List (Test Cell) → Result T FilterError → Type 0
Answers P columns ts r = MatchResult r (λ _. AllFit P columns ts) (RefusesFirst P columns ts)

pub answers_both : (P : TypeTree → Cell → Type 0) (columns : List TypeTree) (ps qs : List (Test Cell)) (r s : Result (Unit {0}) FilterError) → Answers P columns ps r → Answers P columns qs s
    → Answers P columns (ps ++ qs) (answer_of_both (capped (length ps)) r s)
answers_both P columns ps qs (Err e) s h k = refuses_front P columns ps qs e h
answers_both P columns ps qs (Ok x) (Err e) h k = refuses_behind P columns ps qs (capped (length ps)) e refl h k
answers_both P columns ps qs (Ok x) (Ok y) h k = fit_both P columns ps qs h k

both_true : (a b : Bool) (A B : Type 0) → (a ≡ true → A) × (a ≡ false → ¬ A) → (b ≡ true → B) × (b ≡ false → ¬ B) → ((a && b) ≡ true → A × B) × ((a && b) ≡ false → ¬ (A × B))
both_true true b A B h k = ((λ e. (h.0 refl, k.0 e)), (λ e n. k.1 e n.1))
both_true false b A B h k = ((λ e. absurd (false≢true e)), (λ e n. h.1 refl n.0))

same_test : (t u : TypeTree) → (same_type t u ≡ true → Same t u) × (same_type t u ≡ false → ¬ (Same t u))
same_test t u = ((same_type-Decides t u).0, (λ e h. false≢true (sym e ∙ (same_type-Decides t u).1 h)))

all_test : (t : TypeTree) (xs : List Cell) → (list_all (λ x. same_type t x.typed) xs ≡ true → AllByRecursion (IsOfType t) xs) × (list_all (λ x. same_type t x.typed) xs ≡ false → ¬ (AllByRecursion (IsOfType t) xs))
all_test t [] = ((λ e. tt), (λ e. absurd (false≢true (sym e))))
all_test t (x ∷ xs) = both_true (same_type t x.typed) (list_all (λ x. same_type t x.typed) xs) (IsOfType t x) (AllByRecursion (IsOfType t) xs) (same_test t x.typed) (all_test t xs)

pub strings_test : (t : TypeTree) → (holds_strings t ≡ true → HoldsStrings t) × (holds_strings t ≡ false → ¬ (HoldsStrings t))
strings_test (utf8_type n) = ((λ e. tt), (λ e. absurd (false≢true (sym e))))
strings_test (binary_type n) = ((λ e. tt), (λ e. absurd (false≢true (sym e))))
strings_test _ = ((λ e. absurd (false≢true e)), (λ e h. h))

pub text_test : (t : TypeTree) → (is_utf8_type t ≡ true → HoldsText t) × (is_utf8_type t ≡ false → ¬ (HoldsText t))
text_test (utf8_type n) = ((λ e. tt), (λ e. absurd (false≢true (sym e))))
text_test _ = ((λ e. absurd (false≢true e)), (λ e h. h))

suits_test : (d : Demand Cell) (t : TypeTree) → (suits d t ≡ true → Suits IsOfType d t) × (suits d t ≡ false → ¬ (Suits IsOfType d t))
suits_test nothing t = ((λ e. tt), (λ e. absurd (false≢true (sym e))))
suits_test (comparing xs) t = all_test t xs
suits_test (beginning p) t = both_true (holds_strings t) (same_type t p.typed) (HoldsStrings t) (Same t p.typed) (strings_test t) (same_test t p.typed)
suits_test matching t = text_test t

pub order_test : (d : Demand Cell) (t : TypeTree) → (lacks_order d t ≡ false → IsOrderedFor d t) × (lacks_order d t ≡ true → ¬ (IsOrderedFor d t))
order_test nothing t = ((λ e. tt), (λ e. absurd (false≢true e)))
order_test (comparing xs) t = (none-from_test t, (λ e h. true≢false (sym e ∙ test-from_none t h)))
order_test (beginning p) t = (none-from_test t, (λ e h. true≢false (sym e ∙ test-from_none t h)))
order_test matching t = (none-from_test t, (λ e h. true≢false (sym e ∙ test-from_none t h)))

-- a test is refused at its column
pub test_refused : (P : TypeTree → Cell → Type 0) (columns : List TypeTree) (k : ℕ) (d : Demand Cell) (o : Option TypeTree) (e : FilterError) → slice_get columns k ≡ o
    → Refuses P columns 0 (record { column = k; demand = d }) e → RefusesFirst P columns (record { column = k; demand = d } ∷ []) e
test_refused P columns k d o e h r = refuses_one P columns k d e r

abbrev fine : Result (Unit {0}) FilterError
fine = Ok tt

test_answers : (columns : List TypeTree) (k : ℕ) (d : Demand Cell) (o : Option TypeTree) → slice_get columns k ≡ o → Answers IsOfType columns (record { column = k; demand = d } ∷ []) (checked_test o d k)
test_answers columns k d None h = refuses_one IsOfType columns k d (NoColumn 0 k) (refl, refl, h)
test_answers columns k d (Some t) h = by_order (lacks_order d t) refl
  where
    there : (Q : TypeTree → Type 0) → Q t → IsSomeAnd (slice_get columns k) Q
    there Q q = subst (λ o. IsSomeAnd o Q) (sym h) q

    by_type : (b : Bool) → suits d t ≡ b → IsOrderedFor d t → Answers IsOfType columns (record { column = k; demand = d } ∷ []) (cond b fine (Err (TypesDiffer 0 k)))
    by_type true e o = fit_one IsOfType columns k d t h o ((suits_test d t).0 e)
    by_type false e o = refuses_one IsOfType columns k d (TypesDiffer 0 k) (refl, refl, there (λ t. IsOrderedFor d t × ¬ (Suits IsOfType d t)) (o, (suits_test d t).1 e))

    by_order : (b : Bool) → lacks_order d t ≡ b → Answers IsOfType columns (record { column = k; demand = d } ∷ []) (cond b (Err (HasVariant 0 k)) (cond (suits d t) fine (Err (TypesDiffer 0 k))))
    by_order true e = refuses_one IsOfType columns k d (HasVariant 0 k) (refl, refl, there (λ t. ¬ (IsOrderedFor d t)) ((order_test d t).1 e))
    by_order false e = by_type (suits d t) refl ((order_test d t).0 e)

checked_answers : (columns : List TypeTree) (f : Formula) → Answers IsOfType columns (tests f) (checked columns f)
checked_answers columns (constant t) = tt
checked_answers columns (comparison k op x) = test_answers columns k (comparing (x ∷ [])) (slice_get columns k) refl
checked_answers columns (null_test k) = test_answers columns k nothing (slice_get columns k) refl
checked_answers columns (membership k xs) = test_answers columns k (comparing xs) (slice_get columns k) refl
checked_answers columns (range k x y) = test_answers columns k (comparing (x ∷ y ∷ [])) (slice_get columns k) refl
checked_answers columns (prefix_test k p) = test_answers columns k (beginning p) (slice_get columns k) refl
checked_answers columns (pattern_test k case parts) = test_answers columns k matching (slice_get columns k) refl
checked_answers columns (both f g) = answers_both IsOfType columns (tests f) (tests g) (checked columns f) (checked columns g) (checked_answers columns f) (checked_answers columns g)
checked_answers columns (either f g) = answers_both IsOfType columns (tests f) (tests g) (checked columns f) (checked columns g) (checked_answers columns f) (checked_answers columns g)
checked_answers columns (negation f) = checked_answers columns f

-- the answer is Ok exactly if each test fits, and else refuses the first that does not
exactly_if : (columns : List TypeTree) (f : Formula) (r : Result (Unit {0}) FilterError) → Answers IsOfType columns (tests f) r → (IsOk r ↔ FitsColumns columns f) × IfErr r (RefusesFirst IsOfType columns (tests f))
exactly_if columns f (Ok x) h = (((λ _. h), (λ _. refl)), tt)
exactly_if columns f (Err e) h = (((λ k. absurd (false≢true k)), (λ k. absurd (not_both IsOfType columns (tests f) e k h))), h)

pub fits_exactly : (columns : List TypeTree) (f : Formula) (r : Result (Unit {0}) FilterError) → r ≡ checked columns f → IsOk r ↔ FitsColumns columns f
fits_exactly columns f r e = (exactly_if columns f r (subst (Answers IsOfType columns (tests f)) (sym e) (checked_answers columns f))).0

pub refused_first : (columns : List TypeTree) (f : Formula) (r : Result (Unit {0}) FilterError) → r ≡ checked columns f → IfErr r (RefusesFirst IsOfType columns (tests f))
refused_first columns f r e = (exactly_if columns f r (subst (Answers IsOfType columns (tests f)) (sym e) (checked_answers columns f))).1

pub ruleset shown = (fits_exactly, refused_first)
