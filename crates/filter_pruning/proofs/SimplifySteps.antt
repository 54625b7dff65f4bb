-- Steps of what is left of a filter.
use Rattle.std.proofs.Common.{◌≡◌, ◌≤◌, ℕ, Bool, true, false, cond, ◌&&◌, ◌||◌, is_none, is_some, List, Option, Some, None, option_map, Result, Ok, Err, MatchOption, MatchResult, IfErr, IfOk, IsOkAnd, refl, sym, subst, ap, ap₂, ◌∙◌}
use Rattle.std.proofs.lemmas.Bool.{false≢true}
use Rattle.like_patterns.specs.declared.case.Case.{Case}
use Rattle.like_patterns.specs.Patterns.{Part}
use Rattle.vortex_cells.specs.Cells.{Cell, cell_order}
use Rattle.vortex_statistics.specs.Statistics.{Known}
use Rattle.vortex_cells.proofs.CellLaws.{IsOrder}
use Rattle.vortex_filter.specs.declared.error.FilterError.{FilterError}
use Rattle.vortex_filter.specs.declared.error.FilterError.TheVariants.{OutOfMemory}
use Rattle.vortex_filter.specs.declared.filter.Filter.{Filter, Constant}
use Rattle.vortex_filter.specs.declared.operator.CompareOperator.{CompareOperator}
use Rattle.filter_pruning.specs.declared.outcomes.Outcomes.{Outcomes}
use Rattle.filter_pruning.specs.declared.residual.Residual.{Residual}
use Rattle.vortex_filter.specs.declared.truth.Truth.{Truth}
use Rattle.vortex_filter.specs.declared.truth.Truth.TheVariants.{False, True}
use Rattle.vortex_filter.specs.Formula.{Formula, both, comparison, constant, either, formula, membership, negation, null_test, pattern_test, prefix_test, range, truth}
use Rattle.filter_pruning.specs.Leaves.{IsResidual, is_made_false, is_made_true, settled}
use Rattle.vortex_filter.specs.Makes.{Makes, MakesUnlessBare, OfParts, IsBare}
use Rattle.filter_pruning.specs.OutcomeSets.{only, outcomes_and, outcomes_not, outcomes_or}
use Rattle.filter_pruning.specs.Outcomes.{outcomes}
use Rattle.filter_pruning.specs.Residual.{SameOnRows, conjunction, disjunction, is_constant, reduced, residual, size, sole}
use Rattle.vortex_filter.proofs.MakeSteps.{negation_made, unless_bare}
use Rattle.filter_pruning.proofs.ResidualLaws.{decided, decided_only, residual_size, residual_truth, sole_only, undecided}
use Rattle.filter_pruning.proofs.Soundness.{covered}
use Rattle.vortex_filter.proofs.Steps.{formula-And, formula-Between, formula-Compare, formula-Constant, formula-In, formula-IsNull, formula-Like, formula-Not, formula-Or, formula-StartsWith}

-- ---- a True that is left out

pub left_true : (l r : Result Filter FilterError) → is_made_true l ≡ true → OfParts (λ f g. MakesUnlessBare (conjunction (formula f) (formula g)) r) (λ e. r ≡ Err e) l r
left_true (Err e) r h = absurd (false≢true h)
left_true (Ok f) (Err e) h = refl
left_true (Ok f) (Ok g) h = sym (ap (λ b. cond b (formula g) (cond (is_constant True (formula g)) (formula f) (both (formula f) (formula g)))) h)

pub right_true : (l r : Result Filter FilterError) → is_made_true l ≡ false → is_made_true r ≡ true → OfParts (λ f g. MakesUnlessBare (conjunction (formula f) (formula g)) l) (λ e. l ≡ Err e) l r
right_true (Err e) r h k = refl
right_true (Ok f) (Err e) h k = absurd (false≢true k)
right_true (Ok f) (Ok g) h k =
    sym (ap (λ b. cond b (formula g) (cond (is_constant True (formula g)) (formula f) (both (formula f) (formula g)))) h ∙ ap (λ b. cond b (formula f) (both (formula f) (formula g))) k)

pub neither_true : (l r s : Result Filter FilterError) → is_made_true l ≡ false → is_made_true r ≡ false → OfParts (λ f g. Makes (both (formula f) (formula g)) s) (λ e. s ≡ Err e) l r
    → OfParts (λ f g. MakesUnlessBare (conjunction (formula f) (formula g)) s) (λ e. s ≡ Err e) l r
neither_true (Err e) r s h k w = w
neither_true (Ok f) (Err e) s h k w = w
neither_true (Ok f) (Ok g) s h k w =
    subst (λ p. MakesUnlessBare p s) (sym (ap (λ b. cond b (formula g) (cond (is_constant True (formula g)) (formula f) (both (formula f) (formula g)))) h ∙ ap (λ b. cond b (formula f) (both (formula f) (formula g))) k)) (unless_bare (both (formula f) (formula g)) s (λ b. b) w)

-- ---- a False that is left out

pub left_false : (l r : Result Filter FilterError) → is_made_false l ≡ true → OfParts (λ f g. MakesUnlessBare (disjunction (formula f) (formula g)) r) (λ e. r ≡ Err e) l r
left_false (Err e) r h = absurd (false≢true h)
left_false (Ok f) (Err e) h = refl
left_false (Ok f) (Ok g) h = sym (ap (λ b. cond b (formula g) (cond (is_constant False (formula g)) (formula f) (either (formula f) (formula g)))) h)

pub right_false : (l r : Result Filter FilterError) → is_made_false l ≡ false → is_made_false r ≡ true → OfParts (λ f g. MakesUnlessBare (disjunction (formula f) (formula g)) l) (λ e. l ≡ Err e) l r
right_false (Err e) r h k = refl
right_false (Ok f) (Err e) h k = absurd (false≢true k)
right_false (Ok f) (Ok g) h k =
    sym (ap (λ b. cond b (formula g) (cond (is_constant False (formula g)) (formula f) (either (formula f) (formula g)))) h ∙ ap (λ b. cond b (formula f) (either (formula f) (formula g))) k)

pub neither_false : (l r s : Result Filter FilterError) → is_made_false l ≡ false → is_made_false r ≡ false → OfParts (λ f g. Makes (either (formula f) (formula g)) s) (λ e. s ≡ Err e) l r
    → OfParts (λ f g. MakesUnlessBare (disjunction (formula f) (formula g)) s) (λ e. s ≡ Err e) l r
neither_false (Err e) r s h k w = w
neither_false (Ok f) (Err e) s h k w = w
neither_false (Ok f) (Ok g) s h k w =
    subst (λ p. MakesUnlessBare p s) (sym (ap (λ b. cond b (formula g) (cond (is_constant False (formula g)) (formula f) (either (formula f) (formula g)))) h ∙ ap (λ b. cond b (formula f) (either (formula f) (formula g))) k)) (unless_bare (either (formula f) (formula g)) s (λ b. b) w)

pub ruleset left_out = (left_true, right_true, neither_true, left_false, right_false, neither_false)

-- ---- one truth alone

no_truth : (s : Option Truth) → is_some s ≡ false → s ≡ None
no_truth None e = refl
no_truth (Some t) e = absurd (false≢true (sym e))

-- with one truth the constant is left, and else the filter, if its parts stay as they are
settled_left : (ss : List Known) (f : Formula) (o : Outcomes) → o ≡ outcomes f ss → (sole o ≡ None → reduced ss f ≡ f) → IsResidual ss f (settled o)
settled_left ss f o e h = record { possible = e; left = by_sole (sole o) refl }
  where
    by_sole : (s : Option Truth) → sole o ≡ s → MatchOption (option_map (λ t. Ok (Constant t)) s) ((residual ss f ≡ f) × (sole (outcomes f ss) ≡ None)) (MakesUnlessBare (residual ss f))
    by_sole None q = (undecided ss f (ap sole (sym e) ∙ q) ∙ h q, ap sole (sym e) ∙ q)
    by_sole (Some t) q = formula-Constant t ∙ sym (decided ss f t (ap sole (sym e) ∙ q))

-- with more than one truth a change of the parts is one of the filter
changed_left : (ss : List Known) (f : Formula) (o : Outcomes) (s : Result Filter FilterError) → o ≡ outcomes f ss → is_some (sole o) ≡ false → MakesUnlessBare (reduced ss f) s
    → IsResidual ss f (record { outcomes = o; change = Some s })
changed_left ss f o s e q m = record {
  possible = e;
  left = subst (λ p. MakesUnlessBare p s) (sym (undecided ss f (ap sole (sym e) ∙ no_truth (sole o) q))) m;
}

-- ---- one part

kept : (ss : List Known) (f : Formula) (r : Residual) → IsResidual ss f r → is_none r.change ≡ true → (residual ss f ≡ f) × (sole (outcomes f ss) ≡ None)
kept ss f r h e = by_change r.change h.left e
  where
    by_change : (c : Option (Result Filter FilterError)) → MatchOption c ((residual ss f ≡ f) × (sole (outcomes f ss) ≡ None)) (MakesUnlessBare (residual ss f)) → is_none c ≡ true
        → (residual ss f ≡ f) × (sole (outcomes f ss) ≡ None)
    by_change None h e = h
    by_change (Some m) h e = absurd (false≢true e)

pub filter_left : (ss : List Known) (f : Formula) (r : Residual) (l : Result Filter FilterError) → IsResidual ss f r → MatchOption r.change (MakesUnlessBare f l) (λ m. l ≡ m) → MakesUnlessBare (residual ss f) l
filter_left ss f r l h k = by_change r.change h.left k
  where
    by_change : (c : Option (Result Filter FilterError)) → MatchOption c ((residual ss f ≡ f) × (sole (outcomes f ss) ≡ None)) (MakesUnlessBare (residual ss f)) → MatchOption c (MakesUnlessBare f l) (λ m. l ≡ m)
        → MakesUnlessBare (residual ss f) l
    by_change None h k = subst (λ p. MakesUnlessBare p l) (sym h.0) k
    by_change (Some m) h k = subst (MakesUnlessBare (residual ss f)) (sym k) h

-- a part of which one truth alone is possible decides the whole
deciding : (ss : List Known) (f g : Formula) (t : Truth) (r : Residual) → IsResidual ss f r → r.outcomes ≡ only t → outcomes g ss ≡ only t → IsResidual ss g r
deciding ss f g t r h e q = record { possible = e ∙ sym q; left = by_change r.change h.left }
  where
    one : sole (outcomes f ss) ≡ Some t
    one = decided_only ss f t (sym h.possible ∙ e)

    by_change : (c : Option (Result Filter FilterError)) → MatchOption c ((residual ss f ≡ f) × (sole (outcomes f ss) ≡ None)) (MakesUnlessBare (residual ss f))
        → MatchOption c ((residual ss g ≡ g) × (sole (outcomes g ss) ≡ None)) (MakesUnlessBare (residual ss g))
    by_change None k = let clash : Some t ≡ None = sym one ∙ k.1 in cc
    by_change (Some m) k = subst (λ p. MakesUnlessBare p m) (decided ss f t one ∙ sym (decided ss g t (decided_only ss g t q))) k

-- ---- two parts

-- what is not bare is no constant
no_constant : (t : Truth) (f : Formula) → ¬ (IsBare f) → is_constant t f ≡ false
no_constant t (constant s) h = absurd (h tt)
no_constant t (comparison k op x) h = refl
no_constant t (null_test k) h = refl
no_constant t (membership k xs) h = refl
no_constant t (range k x y) h = refl
no_constant t (prefix_test k p) h = refl
no_constant t (pattern_test k case parts) h = refl
no_constant t (both f g) h = refl
no_constant t (either f g) h = refl
no_constant t (negation f) h = refl

-- nor is that of which more than one truth is possible
undecided_constant : (ss : List Known) (t : Truth) (f : Formula) → sole (outcomes f ss) ≡ None → is_constant t f ≡ false
undecided_constant ss t (constant s) e = let clash : Some s ≡ None = sym (sole_only s) ∙ e in cc
undecided_constant ss t (comparison k op x) e = refl
undecided_constant ss t (null_test k) e = refl
undecided_constant ss t (membership k xs) e = refl
undecided_constant ss t (range k x y) e = refl
undecided_constant ss t (prefix_test k p) e = refl
undecided_constant ss t (pattern_test k case parts) e = refl
undecided_constant ss t (both f g) e = refl
undecided_constant ss t (either f g) e = refl
undecided_constant ss t (negation f) e = refl

one_of : (b : Bool) (f g : Formula) → ¬ (IsBare f) → ¬ (IsBare g) → ¬ (IsBare (cond b f g))
one_of true f g h k = h
one_of false f g h k = k

-- the two joined, without this constant
abbrev joined : Truth → (Formula → Formula → Formula) → Formula → Formula → Formula
joined t join f g = cond (is_constant t f) g (cond (is_constant t g) f (join f g))

module _ (t : Truth) (join : Formula → Formula → Formula) (connective : (f g : Formula) → ¬ (IsBare (join f g))) where
  joined_left : (f g : Formula) → ¬ (IsBare f) → ¬ (IsBare (joined t join f g))
  joined_left f g h =
      subst (λ b. ¬ (IsBare (cond b g (cond (is_constant t g) f (join f g))))) (sym (no_constant t f h)) (one_of (is_constant t g) f (join f g) h (connective f g))

  joined_right : (f g : Formula) → ¬ (IsBare g) → ¬ (IsBare (joined t join f g))
  joined_right f g h =
      subst (λ b. ¬ (IsBare (cond (is_constant t f) g (cond b f (join f g))))) (sym (no_constant t g h)) (one_of (is_constant t f) g (join f g) h (connective f g))

  joined_made : (f g : Formula) (l r s : Result Filter FilterError) → MakesUnlessBare f l → MakesUnlessBare g r
      → OfParts (λ a b. MakesUnlessBare (joined t join (formula a) (formula b)) s) (λ e. s ≡ Err e) l r → MakesUnlessBare (joined t join f g) s
  joined_made f g (Err e) r s h k w = subst (MakesUnlessBare (joined t join f g)) (sym w) (h.0, joined_left f g h.1)
  joined_made f g (Ok a) (Err e) s h k w = subst (MakesUnlessBare (joined t join f g)) (sym w) (k.0, joined_right f g k.1)
  joined_made f g (Ok a) (Ok b) s h k w = subst (λ p. MakesUnlessBare p s) (ap₂ (joined t join) h k) w

  joined_kept : (ss : List Known) (f g : Formula) → (residual ss f ≡ f) × (sole (outcomes f ss) ≡ None) → (residual ss g ≡ g) × (sole (outcomes g ss) ≡ None)
      → joined t join (residual ss f) (residual ss g) ≡ join f g
  joined_kept ss f g h k =
      ap₂ (joined t join) h.0 k.0 ∙ ap₂ (λ b c. cond b g (cond c f (join f g))) (undecided_constant ss t f h.1) (undecided_constant ss t g k.1)

-- with one truth, or if both parts stay as they are
stay_kept : (s : Option Truth) (b c : Bool) → (is_some s || (b && c)) ≡ true → s ≡ None → (b ≡ true) × (c ≡ true)
stay_kept None true true h e = (refl, refl)
stay_kept None true false h e = absurd (false≢true h)
stay_kept None false c h e = absurd (false≢true h)
stay_kept (Some t) b c h e = cc

several : (s : Option Truth) (b : Bool) → (is_some s || b) ≡ false → is_some s ≡ false
several None b h = refl
several (Some t) b h = absurd (false≢true (sym h))

pub both_settled : (ss : List Known) (f g : Formula) (l r : Residual) (o : Outcomes) (s : Residual) → o ≡ outcomes_and l.outcomes r.outcomes → (is_some (sole o) || (is_none l.change && is_none r.change)) ≡ true → s ≡ settled o
    → IsResidual ss f l → IsResidual ss g r → IsResidual ss (both f g) s
both_settled ss f g l r o s e b w h k = subst (IsResidual ss (both f g)) (sym w) (settled_left ss (both f g) o (e ∙ ap₂ outcomes_and h.possible k.possible)
    (λ q. let p = stay_kept (sole o) (is_none l.change) (is_none r.change) b q in joined_kept True both (λ f g b. b) ss f g (kept ss f l h p.0) (kept ss g r k p.1)))

pub both_changed : (ss : List Known) (f g : Formula) (l r : Residual) (o : Outcomes) (x y s : Result Filter FilterError) → o ≡ outcomes_and l.outcomes r.outcomes → (is_some (sole o) || (is_none l.change && is_none r.change)) ≡ false
    → MatchOption l.change (MakesUnlessBare f x) (λ m. x ≡ m) → MatchOption r.change (MakesUnlessBare g y) (λ m. y ≡ m)
    → OfParts (λ a b. MakesUnlessBare (conjunction (formula a) (formula b)) s) (λ e. s ≡ Err e) x y
    → IsResidual ss f l → IsResidual ss g r → IsResidual ss (both f g) (record { outcomes = o; change = Some s })
both_changed ss f g l r o x y s e b v w m h k = changed_left ss (both f g) o s (e ∙ ap₂ outcomes_and h.possible k.possible) (several (sole o) (is_none l.change && is_none r.change) b)
    (joined_made True both (λ f g b. b) (residual ss f) (residual ss g) x y s (filter_left ss f l x h v) (filter_left ss g r y k w) m)

pub either_settled : (ss : List Known) (f g : Formula) (l r : Residual) (o : Outcomes) (s : Residual) → o ≡ outcomes_or l.outcomes r.outcomes → (is_some (sole o) || (is_none l.change && is_none r.change)) ≡ true → s ≡ settled o
    → IsResidual ss f l → IsResidual ss g r → IsResidual ss (either f g) s
either_settled ss f g l r o s e b w h k = subst (IsResidual ss (either f g)) (sym w) (settled_left ss (either f g) o (e ∙ ap₂ outcomes_or h.possible k.possible)
    (λ q. let p = stay_kept (sole o) (is_none l.change) (is_none r.change) b q in joined_kept False either (λ f g b. b) ss f g (kept ss f l h p.0) (kept ss g r k p.1)))

pub either_changed : (ss : List Known) (f g : Formula) (l r : Residual) (o : Outcomes) (x y s : Result Filter FilterError) → o ≡ outcomes_or l.outcomes r.outcomes → (is_some (sole o) || (is_none l.change && is_none r.change)) ≡ false
    → MatchOption l.change (MakesUnlessBare f x) (λ m. x ≡ m) → MatchOption r.change (MakesUnlessBare g y) (λ m. y ≡ m)
    → OfParts (λ a b. MakesUnlessBare (disjunction (formula a) (formula b)) s) (λ e. s ≡ Err e) x y
    → IsResidual ss f l → IsResidual ss g r → IsResidual ss (either f g) (record { outcomes = o; change = Some s })
either_changed ss f g l r o x y s e b v w m h k = changed_left ss (either f g) o s (e ∙ ap₂ outcomes_or h.possible k.possible) (several (sole o) (is_none l.change && is_none r.change) b)
    (joined_made False either (λ f g b. b) (residual ss f) (residual ss g) x y s (filter_left ss f l x h v) (filter_left ss g r y k w) m)

pub ruleset pairs = (both_settled, both_changed, either_settled, either_changed)

-- ---- a negation

pub negation_settled : (ss : List Known) (f : Formula) (r : Residual) → IsResidual ss f r → (is_some (sole (outcomes_not r.outcomes)) || is_none r.change) ≡ true → IsResidual ss (negation f) (settled (outcomes_not r.outcomes))
negation_settled ss f r h b = settled_left ss (negation f) (outcomes_not r.outcomes) (ap outcomes_not h.possible) (λ q. ap negation (kept ss f r h (stays (sole (outcomes_not r.outcomes)) (is_none r.change) b q)).0)
  where
    stays : (s : Option Truth) (b : Bool) → (is_some s || b) ≡ true → s ≡ None → b ≡ true
    stays None b h e = h
    stays (Some t) b h e = cc

pub negation_changed : (ss : List Known) (f : Formula) (r : Residual) (x s : Result Filter FilterError) → IsResidual ss f r → is_some (sole (outcomes_not r.outcomes)) ≡ false → MatchOption r.change (MakesUnlessBare f x) (λ m. x ≡ m)
    → MatchResult x (λ a. Makes (negation (formula a)) s) (λ e. s ≡ Err e) → IsResidual ss (negation f) (record { outcomes = outcomes_not r.outcomes; change = Some s })
negation_changed ss f r x s h q v m =
    changed_left ss (negation f) (outcomes_not r.outcomes) s (ap outcomes_not h.possible) q (negation_made (residual ss f) x s (filter_left ss f r x h v) m)

-- ---- the recursion

pub settled_comparison : (ss : List Known) (k : ℕ) (op : CompareOperator) (x : Cell) (o : Outcomes) → o ≡ outcomes (comparison k op x) ss → IsResidual ss (comparison k op x) (settled o)
settled_comparison ss k op x o e = settled_left ss (comparison k op x) o e (λ q. refl)

pub settled_constant : (ss : List Known) (t : Truth) (o : Outcomes) → o ≡ outcomes (constant t) ss → IsResidual ss (constant t) (settled o)
settled_constant ss t o e = settled_left ss (constant t) o e (λ q. refl)

pub settled_null_test : (ss : List Known) (k : ℕ) (o : Outcomes) → o ≡ outcomes (null_test k) ss → IsResidual ss (null_test k) (settled o)
settled_null_test ss k o e = settled_left ss (null_test k) o e (λ q. refl)

pub settled_membership : (ss : List Known) (k : ℕ) (xs : List Cell) (o : Outcomes) → o ≡ outcomes (membership k xs) ss → IsResidual ss (membership k xs) (settled o)
settled_membership ss k xs o e = settled_left ss (membership k xs) o e (λ q. refl)

pub settled_range : (ss : List Known) (k : ℕ) (x y : Cell) (o : Outcomes) → o ≡ outcomes (range k x y) ss → IsResidual ss (range k x y) (settled o)
settled_range ss k x y o e = settled_left ss (range k x y) o e (λ q. refl)

pub settled_prefix_test : (ss : List Known) (k : ℕ) (p : Cell) (o : Outcomes) → o ≡ outcomes (prefix_test k p) ss → IsResidual ss (prefix_test k p) (settled o)
settled_prefix_test ss k p o e = settled_left ss (prefix_test k p) o e (λ q. refl)

pub settled_pattern_test : (ss : List Known) (k : ℕ) (case : Case) (parts : List Part) (o : Outcomes) → o ≡ outcomes (pattern_test k case parts) ss → IsResidual ss (pattern_test k case parts) (settled o)
settled_pattern_test ss k case parts o e = settled_left ss (pattern_test k case parts) o e (λ q. refl)

-- an And of which the left part is False, and an Or of which it is True
pub false_left : (ss : List Known) (f g : Formula) (r : Residual) → IsResidual ss f r → r.outcomes ≡ only False → IsResidual ss (both f g) r
false_left ss f g r h e = deciding ss f (both f g) False r h e (ap (λ o. outcomes_and o (outcomes g ss)) (sym h.possible ∙ e))

pub true_left : (ss : List Known) (f g : Formula) (r : Residual) → IsResidual ss f r → r.outcomes ≡ only True → IsResidual ss (either f g) r
true_left ss f g r h e = deciding ss f (either f g) True r h e (ap (λ o. outcomes_or o (outcomes g ss)) (sym h.possible ∙ e))

pub ruleset shown = (false_left, true_left, settled_comparison, settled_constant, settled_null_test, settled_membership, settled_range, settled_prefix_test, settled_pattern_test, formula-Constant, formula-Compare, formula-IsNull, formula-In, formula-Between, formula-StartsWith, formula-Like, formula-And, formula-Or, formula-Not)

-- ---- the whole filter

pub same_rows : IsOrder cell_order → (ss : List Known) (f g : Formula) → g ≡ residual ss f → SameOnRows ss f g
same_rows law ss f g e = λ rows right row c. ap (λ h. truth h row) e ∙ residual_truth ss row (λ h. covered law h ss rows right row c) f

pub value_left : (ss : List Known) (f : Formula) (r : Result Filter FilterError) → MakesUnlessBare (residual ss f) r → IfOk r (λ g. formula g ≡ residual ss f)
value_left ss f (Ok g) h = h
value_left ss f (Err e) h = tt

pub same_left : IsOrder cell_order → (ss : List Known) (f : Formula) (r : Result Filter FilterError) → MakesUnlessBare (residual ss f) r → IfOk r (λ g. SameOnRows ss f (formula g))
same_left law ss f (Ok g) h = same_rows law ss f (formula g) h
same_left law ss f (Err e) h = tt

pub smaller_left : (ss : List Known) (f : Formula) (r : Result Filter FilterError) → MakesUnlessBare (residual ss f) r → IfOk r (λ g. size (formula g) ≤ size f)
smaller_left ss f (Ok g) h = subst (λ p. size p ≤ size f) (sym h) (residual_size ss f)
smaller_left ss f (Err e) h = tt

pub decided_left : (ss : List Known) (f : Formula) (r : Result Filter FilterError) → MakesUnlessBare (residual ss f) r → (t : Truth) → outcomes f ss ≡ only t → IsOkAnd r (λ g. formula g ≡ constant t)
decided_left ss f (Ok g) h t e = h ∙ decided ss f t (decided_only ss f t e)
decided_left ss f (Err d) h t e = absurd (h.1 (subst IsBare (sym (decided ss f t (decided_only ss f t e))) tt))

pub refused_left : (f : Formula) (r : Result Filter FilterError) → MakesUnlessBare f r → IfErr r (λ e. (e ≡ OutOfMemory) × ¬ (IsBare f))
refused_left f (Ok g) h = tt
refused_left f (Err e) h = h
