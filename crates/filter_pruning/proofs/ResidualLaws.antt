-- What is left of a formula says what the formula says, and is no larger.
use Rattle.std.proofs.Common.{◌≡◌, ℕ, ◌+◌, ◌≤◌, Bool, true, false, cond, List, Option, Some, None, length, refl, sym, ap, ap₂, ◌∙◌, arith}
use Rattle.std.proofs.lemmas.Bool.{false≢true}
use Rattle.vortex_cells.specs.Cells.{Cell}
use Rattle.vortex_statistics.specs.Statistics.{Known}
use Rattle.filter_pruning.specs.declared.outcomes.Outcomes.{Outcomes}
use Rattle.vortex_filter.specs.declared.truth.Truth.{Truth}
use Rattle.vortex_filter.specs.declared.truth.Truth.TheVariants.{False, Unknown, True}
use Rattle.vortex_filter.specs.Formula.{Formula, constant, comparison, null_test, membership, range, prefix_test, pattern_test, both, either, negation, truth}
use Rattle.filter_pruning.specs.OutcomeSets.{allows, only}
use Rattle.filter_pruning.specs.Outcomes.{outcomes}
use Rattle.filter_pruning.specs.Residual.{conjunction, disjunction, is_constant, reduced, residual, settled_as, size, sole, sole_of}
use Rattle.vortex_filter.specs.Truths.{truth_and, truth_not, truth_or}

-- ---- truth

-- a truth that is possible is the one that alone is
sole_is : (f u t : Bool) (s : Truth) (x : Truth) → sole_of f u t ≡ Some s → allows (record { may_be_false = f; may_be_unknown = u; may_be_true = t }) x ≡ true → s ≡ x
sole_is true false false s False e h = cc
sole_is true false false s Unknown e h = absurd (false≢true h)
sole_is true false false s True e h = absurd (false≢true h)
sole_is false true false s False e h = absurd (false≢true h)
sole_is false true false s Unknown e h = cc
sole_is false true false s True e h = absurd (false≢true h)
sole_is false false true s False e h = absurd (false≢true h)
sole_is false false true s Unknown e h = absurd (false≢true h)
sole_is false false true s True e h = cc
sole_is true true false s x e h = cc
sole_is true false true s x e h = cc
sole_is false true true s x e h = cc
sole_is true true true s x e h = cc
sole_is false false false s x e h = cc

settled_truth : (o : Outcomes) (f : Formula) (row : List Cell) (x : Truth) → allows o x ≡ true → truth f row ≡ x → truth (settled_as (sole o) f) row ≡ x
settled_truth o f row x h k = by_sole (sole o) refl
  where
    by_sole : (s : Option Truth) → sole o ≡ s → truth (settled_as s f) row ≡ x
    by_sole None e = k
    by_sole (Some s) e = sole_is o.may_be_false o.may_be_unknown o.may_be_true s x e h

and_true_left : (t : Truth) → truth_and True t ≡ t
and_true_left False = refl
and_true_left Unknown = refl
and_true_left True = refl

and_true_right : (t : Truth) → truth_and t True ≡ t
and_true_right False = refl
and_true_right Unknown = refl
and_true_right True = refl

or_false_left : (t : Truth) → truth_or False t ≡ t
or_false_left False = refl
or_false_left Unknown = refl
or_false_left True = refl

or_false_right : (t : Truth) → truth_or t False ≡ t
or_false_right False = refl
or_false_right Unknown = refl
or_false_right True = refl

constant_true : (f : Formula) (row : List Cell) → is_constant True f ≡ true → truth f row ≡ True
constant_true (constant True) row e = refl
constant_true (constant False) row e = absurd (false≢true e)
constant_true (constant Unknown) row e = absurd (false≢true e)
constant_true _ row e = absurd (false≢true e)

constant_false : (f : Formula) (row : List Cell) → is_constant False f ≡ true → truth f row ≡ False
constant_false (constant False) row e = refl
constant_false (constant True) row e = absurd (false≢true e)
constant_false (constant Unknown) row e = absurd (false≢true e)
constant_false _ row e = absurd (false≢true e)

conjunction_truth : (f g : Formula) (row : List Cell) → truth (conjunction f g) row ≡ truth_and (truth f row) (truth g row)
conjunction_truth f g row = by_tests (is_constant True f) (is_constant True g) (constant_true f row) (constant_true g row)
  where
    by_tests : (a b : Bool) → (a ≡ true → truth f row ≡ True) → (b ≡ true → truth g row ≡ True) → truth (cond a g (cond b f (both f g))) row ≡ truth_and (truth f row) (truth g row)
    by_tests true b h k = sym (ap (λ t. truth_and t (truth g row)) (h refl) ∙ and_true_left (truth g row))
    by_tests false true h k = sym (ap (truth_and (truth f row)) (k refl) ∙ and_true_right (truth f row))
    by_tests false false h k = refl

disjunction_truth : (f g : Formula) (row : List Cell) → truth (disjunction f g) row ≡ truth_or (truth f row) (truth g row)
disjunction_truth f g row = by_tests (is_constant False f) (is_constant False g) (constant_false f row) (constant_false g row)
  where
    by_tests : (a b : Bool) → (a ≡ true → truth f row ≡ False) → (b ≡ true → truth g row ≡ False) → truth (cond a g (cond b f (either f g))) row ≡ truth_or (truth f row) (truth g row)
    by_tests true b h k = sym (ap (λ t. truth_or t (truth g row)) (h refl) ∙ or_false_left (truth g row))
    by_tests false true h k = sym (ap (truth_or (truth f row)) (k refl) ∙ or_false_right (truth f row))
    by_tests false false h k = refl

-- on a row on which the outcomes of each formula are right
pub residual_truth : (ss : List Known) (row : List Cell) → ((g : Formula) → allows (outcomes g ss) (truth g row) ≡ true) → (f : Formula) → truth (residual ss f) row ≡ truth f row
residual_truth ss row c (constant t) = settled_truth (outcomes (constant t) ss) (constant t) row t (c (constant t)) refl
residual_truth ss row c (comparison k op x) = settled_truth (outcomes (comparison k op x) ss) (comparison k op x) row _ (c (comparison k op x)) refl
residual_truth ss row c (null_test k) = settled_truth (outcomes (null_test k) ss) (null_test k) row _ (c (null_test k)) refl
residual_truth ss row c (membership k xs) = settled_truth (outcomes (membership k xs) ss) (membership k xs) row _ (c (membership k xs)) refl
residual_truth ss row c (range k x y) = settled_truth (outcomes (range k x y) ss) (range k x y) row _ (c (range k x y)) refl
residual_truth ss row c (prefix_test k p) = settled_truth (outcomes (prefix_test k p) ss) (prefix_test k p) row _ (c (prefix_test k p)) refl
residual_truth ss row c (pattern_test k case parts) = settled_truth (outcomes (pattern_test k case parts) ss) (pattern_test k case parts) row _ (c (pattern_test k case parts)) refl
residual_truth ss row c (both f g) =
    settled_truth (outcomes (both f g) ss) (conjunction (residual ss f) (residual ss g)) row _ (c (both f g))
    (conjunction_truth (residual ss f) (residual ss g) row ∙ ap₂ truth_and (residual_truth ss row c f) (residual_truth ss row c g))
residual_truth ss row c (either f g) =
    settled_truth (outcomes (either f g) ss) (disjunction (residual ss f) (residual ss g)) row _ (c (either f g))
    (disjunction_truth (residual ss f) (residual ss g) row ∙ ap₂ truth_or (residual_truth ss row c f) (residual_truth ss row c g))
residual_truth ss row c (negation f) =
    settled_truth (outcomes (negation f) ss) (negation (residual ss f)) row _ (c (negation f)) (ap truth_not (residual_truth ss row c f))

-- ---- size

size_positive : (f : Formula) → 1 ≤ size f
size_positive (constant t) = omega arith
size_positive (comparison k op x) = omega arith
size_positive (null_test k) = omega arith
size_positive (membership k xs) = omega arith
size_positive (range k x y) = omega arith
size_positive (prefix_test k p) = omega arith
size_positive (pattern_test k case parts) = omega arith
size_positive (both f g) = omega arith
size_positive (either f g) = omega arith
size_positive (negation f) = omega arith

settled_size : (s : Option Truth) (f : Formula) (n : ℕ) → 1 ≤ n → size f ≤ n → size (settled_as s f) ≤ n
settled_size None f n h k = k
settled_size (Some t) f n h k = h

-- a choice of three
choice_size : (a b : Bool) (f g h : Formula) (n : ℕ) → size g ≤ n → size f ≤ n → size h ≤ n → size (cond a g (cond b f h)) ≤ n
choice_size true b f g h n x y z = x
choice_size false true f g h n x y z = y
choice_size false false f g h n x y z = z

pub residual_size : (ss : List Known) (f : Formula) → size (residual ss f) ≤ size f
residual_size ss (constant t) = settled_size (sole (outcomes (constant t) ss)) (constant t) 1 (omega arith) (omega arith)
residual_size ss (comparison k op x) = settled_size (sole (outcomes (comparison k op x) ss)) (comparison k op x) 2 (omega arith) (omega arith)
residual_size ss (null_test k) = settled_size (sole (outcomes (null_test k) ss)) (null_test k) 1 (omega arith) (omega arith)
residual_size ss (membership k xs) = settled_size (sole (outcomes (membership k xs) ss)) (membership k xs) (1 + length xs) (omega arith) (omega arith)
residual_size ss (range k x y) = settled_size (sole (outcomes (range k x y) ss)) (range k x y) 3 (omega arith) (omega arith)
residual_size ss (prefix_test k p) = settled_size (sole (outcomes (prefix_test k p) ss)) (prefix_test k p) 2 (omega arith) (omega arith)
residual_size ss (pattern_test k case parts) = settled_size (sole (outcomes (pattern_test k case parts) ss)) (pattern_test k case parts) 1 (omega arith) (omega arith)
residual_size ss (both f g) =
    let h : size (residual ss f) ≤ size f = residual_size ss f in
    let k : size (residual ss g) ≤ size g = residual_size ss g in
    settled_size (sole (outcomes (both f g) ss)) (conjunction (residual ss f) (residual ss g)) (1 + size f + size g) (omega arith)
    (choice_size (is_constant True (residual ss f)) (is_constant True (residual ss g)) (residual ss f) (residual ss g) (both (residual ss f) (residual ss g)) (1 + size f + size g) (omega arith) (omega arith) (omega arith))
residual_size ss (either f g) =
    let h : size (residual ss f) ≤ size f = residual_size ss f in
    let k : size (residual ss g) ≤ size g = residual_size ss g in
    settled_size (sole (outcomes (either f g) ss)) (disjunction (residual ss f) (residual ss g)) (1 + size f + size g) (omega arith)
    (choice_size (is_constant False (residual ss f)) (is_constant False (residual ss g)) (residual ss f) (residual ss g) (either (residual ss f) (residual ss g)) (1 + size f + size g) (omega arith) (omega arith) (omega arith))
residual_size ss (negation f) =
    let h : size (residual ss f) ≤ size f = residual_size ss f in
    settled_size (sole (outcomes (negation f) ss)) (negation (residual ss f)) (1 + size f) (omega arith) (omega arith)

-- ---- one truth for all

pub sole_only : (t : Truth) → sole (only t) ≡ Some t
sole_only False = refl
sole_only Unknown = refl
sole_only True = refl

sole_from_only : (o : Outcomes) (t : Truth) → o ≡ only t → sole o ≡ Some t
sole_from_only o t e = ap sole e ∙ sole_only t

residual_is : (ss : List Known) (f : Formula) → residual ss f ≡ settled_as (sole (outcomes f ss)) (reduced ss f)
residual_is ss (constant s) = refl
residual_is ss (comparison k op x) = refl
residual_is ss (null_test k) = refl
residual_is ss (membership k xs) = refl
residual_is ss (range k x y) = refl
residual_is ss (prefix_test k p) = refl
residual_is ss (pattern_test k case parts) = refl
residual_is ss (both f g) = refl
residual_is ss (either f g) = refl
residual_is ss (negation f) = refl

-- what is left is the constant, if one truth alone is possible
pub decided : (ss : List Known) (f : Formula) (t : Truth) → sole (outcomes f ss) ≡ Some t → residual ss f ≡ constant t
decided ss f t e = residual_is ss f ∙ ap (λ o. settled_as o (reduced ss f)) e

-- and else the formula with what is left of its parts
pub undecided : (ss : List Known) (f : Formula) → sole (outcomes f ss) ≡ None → residual ss f ≡ reduced ss f
undecided ss f e = residual_is ss f ∙ ap (λ o. settled_as o (reduced ss f)) e

pub decided_only : (ss : List Known) (f : Formula) (t : Truth) → outcomes f ss ≡ only t → sole (outcomes f ss) ≡ Some t
decided_only ss f t e = sole_from_only (outcomes f ss) t e
