-- A union's id gives the type at its place. A lemma, which crates above cite.
use Rattle.std.proofs.Common.{◌≡◌, ℕ, suc, ◌+◌, ◌==◌, ◌<◌, ◌≤◌, inl, inr, Bool, true, false, cond, List, [], ◌∷◌, length, Option, Some, None, refl, sym, ◌∙◌, arith}
use Rattle.std.specs.Prelude.{slice_get, option_and_then, position, nat_lt}
use Rattle.std.specs.List.{position_or_len}
use Rattle.std.proofs.lemmas.Bool.{cases_lt}
use Rattle.std.proofs.lemmas.Bool.Decides.{nat_tests}
use Rattle.vortex_dtype.specs.TypeTree.{TypeTree}
use Rattle.vortex_dtype.specs.TypeOf.{as_type_trees}
use Rattle.vortex_value.specs.Validity.{type_with}

none_there : (ts : List TypeTree) (o : Option ℕ) → ts ≡ [] → option_and_then (slice_get ts) o ≡ None
none_there [] None e = refl
none_there [] (Some i) e = refl
none_there (t ∷ ts) o e = cc

-- the place in the rest is one less
further : (t : TypeTree) (ts : List TypeTree) (m n : ℕ)
    → option_and_then (slice_get (t ∷ ts)) (cond (nat_lt (1 + m) (suc n)) (Some (1 + m)) None) ≡ option_and_then (slice_get ts) (cond (nat_lt m n) (Some m) None)
further t ts m n = elim (cases_lt m n) [ inl h ↦ within h | inr h ↦ past h ]
  where
    within : m < n → option_and_then (slice_get (t ∷ ts)) (cond (nat_lt (1 + m) (suc n)) (Some (1 + m)) None) ≡ option_and_then (slice_get ts) (cond (nat_lt m n) (Some m) None)
    within h =
        let a : nat_lt (1 + m) (suc n) ≡ true = grind (arith, nat_tests) in
        let b : nat_lt m n ≡ true = grind (arith, nat_tests) in
        let e : 1 + m ≡ suc m = omega arith in
        rw (a, b, e) refl

    past : n ≤ m → option_and_then (slice_get (t ∷ ts)) (cond (nat_lt (1 + m) (suc n)) (Some (1 + m)) None) ≡ option_and_then (slice_get ts) (cond (nat_lt m n) (Some m) None)
    past h =
        let a : nat_lt (1 + m) (suc n) ≡ false = grind (arith, nat_tests) in
        let b : nat_lt m n ≡ false = grind (arith, nat_tests) in
        rw (a, b) refl

some_first : (n : ℕ) → nat_lt 0 (suc n) ≡ true
some_first n = grind (arith, nat_tests)

-- the type that the id gives is the one at its place
pub type_with-position : (id : ℕ) (ids : List ℕ) (ts : List TypeTree) → type_with id ids (as_type_trees ts) ≡ option_and_then (slice_get ts) (position (λ i. i == id) ids)
type_with-position id [] ts = refl
type_with-position id (i ∷ is) [] = sym (none_there [] _ refl)
type_with-position id (i ∷ is) (t ∷ ts) = by_test (i == id) refl (type_with-position id is ts)
  where
    by_test : (b : Bool) → (i == id) ≡ b → type_with id is (as_type_trees ts) ≡ option_and_then (slice_get ts) (position (λ j. j == id) is)
        → type_with id (i ∷ is) (as_type_trees (t ∷ ts)) ≡ option_and_then (slice_get (t ∷ ts)) (position (λ j. j == id) (i ∷ is))
    by_test true e h = rw (e, some_first) refl
    by_test false e h = rw e (h ∙ sym (further t ts (position_or_len (λ j. j == id) is) (length is)))
