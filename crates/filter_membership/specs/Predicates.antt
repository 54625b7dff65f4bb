-- What a filter asks of members, and what the answers say of it.
use Rattle.std.specs.Prelude.{◌≡◌, ℕ, Bool, true, List, [], ◌∷◌, map, Option, Some, None, Contains, IsTrue}
use Rattle.std.specs.List.{list_any}
use Rattle.vortex_cells.specs.Cells.{Cell, HasValue}
use Rattle.vortex_filter.specs.Formula.{Formula, constant, comparison, membership, both, either, negation, truth}
use Rattle.vortex_filter.specs.declared.operator.CompareOperator.{CompareOperator}
use Rattle.vortex_filter.specs.declared.operator.CompareOperator.TheVariants.{Eq}
use Rattle.vortex_filter.specs.declared.truth.Truth.{Truth}
use Rattle.vortex_filter.specs.declared.truth.Truth.TheVariants.{True}
use Rattle.filter_pruning.specs.OutcomeSets.{allows, any, only, outcomes_and, outcomes_not, outcomes_or}
use Rattle.filter_pruning.specs.Pruning.{column}
use Rattle.filter_pruning.specs.declared.outcomes.Outcomes.{Outcomes}
use Rattle.filter_membership.specs.declared.predicate.MembershipPredicate.{MembershipPredicate, fold-MembershipPredicate}
use Rattle.filter_membership.specs.declared.predicate.MembershipPredicate.TheOpen.{MembershipPredicate-F}
use Rattle.value_membership.specs.Members.{hash_of}
use Rattle.filter_membership.specs.Filters.{literal_hash}

-- ---- what is asked

-- what contracts see of a predicate
pub data PredicateTree : Type 0 where
  -- a test that members do not decide
  undecided : PredicateTree
  always : Truth → PredicateTree
  -- whether the column has one of these
  one_of : ℕ → List (Option ℕ) → PredicateTree
  both_of : PredicateTree → PredicateTree → PredicateTree
  either_of : PredicateTree → PredicateTree → PredicateTree
  negation_of : PredicateTree → PredicateTree

abbrev pub predicate_step : MembershipPredicate-F PredicateTree → PredicateTree
predicate_step MembershipPredicate-F.Open = undecided
predicate_step (MembershipPredicate-F.Constant t) = always t
predicate_step (MembershipPredicate-F.OneOf column hashes) = one_of column hashes.items
predicate_step (MembershipPredicate-F.And p q) = both_of p.value q.value
predicate_step (MembershipPredicate-F.Or p q) = either_of p.value q.value
predicate_step (MembershipPredicate-F.Not p) = negation_of p.value

abbrev pub predicate_tree : MembershipPredicate → PredicateTree
predicate_tree = fold-MembershipPredicate PredicateTree predicate_step

-- what a comparison asks: equality alone asks for its literal
abbrev pub asked_by : CompareOperator → ℕ → Cell → PredicateTree
asked_by Eq k literal = one_of k (literal_hash literal ∷ [])
asked_by _ k literal = undecided

-- what a filter asks
abbrev pub asked : Formula → PredicateTree
asked (constant t) = always t
asked (comparison k op literal) = asked_by op k literal
asked (membership k literals) = one_of k (map literal_hash literals)
asked (both f g) = both_of (asked f) (asked g)
asked (either f g) = either_of (asked f) (asked g)
asked (negation f) = negation_of (asked f)
asked _ = undecided

-- ---- what is answered

-- whether a literal may be a value, by whether its hash may: one without a key may always be
abbrev pub may_have : (ℕ → Bool) → Option ℕ → Bool
may_have may None = true
may_have may (Some hash) = may hash

-- whether one of the literals may be
abbrev pub may_have_one : (ℕ → Bool) → List (Option ℕ) → Bool
may_have_one may hashes = list_any (may_have may) hashes

-- equality with one of the literals: not True if none may be a value, and else anything
abbrev pub list_outcomes : (ℕ → Bool) → List (Option ℕ) → Outcomes
list_outcomes may hashes = record { may_be_false = true; may_be_unknown = true; may_be_true = may_have_one may hashes }

-- what the filter can be on the rows of a zone, by which hashes its columns may have
abbrev pub members_outcomes : PredicateTree → (ℕ → ℕ → Bool) → Outcomes
members_outcomes undecided may = any
members_outcomes (always t) may = only t
members_outcomes (one_of k hashes) may = list_outcomes (may k) hashes
members_outcomes (both_of p q) may = outcomes_and (members_outcomes p may) (members_outcomes q may)
members_outcomes (either_of p q) may = outcomes_or (members_outcomes p may) (members_outcomes q may)
members_outcomes (negation_of p) may = outcomes_not (members_outcomes p may)

-- ---- what that promises

-- each value of each column may be had, by its hash
pub record AreMembersOf (may : ℕ → ℕ → Bool) (rows : List (List Cell)) : Type 0 where
  pub values : (k : ℕ) (x : Cell) → HasValue (column k rows) x → may k (hash_of x) ≡ true

-- P holds of each row of each zone with these members
abbrev pub OnEachRow : (ℕ → ℕ → Bool) → (List Cell → Type 0) → Type 0
OnEachRow may P = (rows : List (List Cell)) → AreMembersOf may rows → (row : List Cell) → Contains rows row → P row

-- on each such row the formula is one of the outcomes
abbrev pub Covers : Formula → (ℕ → ℕ → Bool) → Outcomes → Type 0
Covers f may o = OnEachRow may (λ row. IsTrue (allows o (truth f row)))

-- on none of them it is True
abbrev pub MatchesNoRow : Formula → (ℕ → ℕ → Bool) → Type 0
MatchesNoRow f may = OnEachRow may (λ row. ¬ (truth f row ≡ True))
