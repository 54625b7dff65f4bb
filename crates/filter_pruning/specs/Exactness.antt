-- That the outcomes of a comparison, and of a test for a prefix, are no more than the statistics allow.
use Rattle.std.specs.Prelude.{◌≡◌, ◌↔◌, Bool, true, false, IsTrue, List, Contains, Option, Some, IfSome, IsSome}
use Rattle.vortex_cells.specs.Cells.{Cell, IsUpTo, cell_order, is_null_cell, order_from_above}
use Rattle.vortex_statistics.specs.Statistics.{AreRight, Known, KnownBound, may_be_null, may_be_value}
use Rattle.vortex_filter.specs.declared.operator.CompareOperator.{CompareOperator}
use Rattle.vortex_filter.specs.declared.operator.CompareOperator.TheVariants.{Eq, NotEq}
use Rattle.vortex_filter.specs.declared.truth.Truth.{Truth}
use Rattle.vortex_filter.specs.declared.truth.Truth.TheVariants.{False, True}
use Rattle.vortex_filter.specs.Formula.{compare_truth}
use Rattle.filter_pruning.specs.Orders.{is_plain}
use Rattle.filter_pruning.specs.OutcomeSets.{allows}
use Rattle.filter_pruning.specs.Outcomes.{compare_outcomes, prefix_outcomes}
use Rattle.vortex_filter.specs.Prefixes.{prefix_truth}

-- ---- cells that statistics allow

-- the value is between the bounds, and compares with them
pub record IsWithin (lower upper : Option KnownBound) (x : Cell) : Type 0 where
  pub from : IfSome lower (λ b. IsUpTo cell_order b.value x)
  pub to : IfSome upper (λ b. IsUpTo order_from_above b.value x)

-- the counts and the bounds allow the cell
pub record Admits (s : Known) (x : Cell) : Type 0 where
  pub null : is_null_cell x ≡ true → may_be_null s ≡ true
  pub value : is_null_cell x ≡ false → may_be_value s ≡ true
  pub within : is_null_cell x ≡ false → IsWithin s.lower s.upper x

-- P holds of some cell that the statistics allow
abbrev pub OnSomeCell : Known → (Cell → Type 0) → Type 0
OnSomeCell s P = (x : Cell) × Admits s x × P x

-- ---- bounds without parts

-- two bounds that have no parts, the lower one not above the upper one
pub record IsPlainRange (lower upper : KnownBound) : Type 0 where
  pub plain_lower : is_plain lower.value ≡ true
  pub plain_upper : is_plain upper.value ≡ true
  pub ordered : IsUpTo cell_order lower.value upper.value

-- both bounds are there, and have no parts
abbrev pub ArePlainBounds : Option KnownBound → Option KnownBound → Type 0
ArePlainBounds (Some lower) (Some upper) = IsPlainRange lower upper
ArePlainBounds _ _ = ⊥

-- between two bounds without parts, a comparison has just the outcomes that it has on the cells which the statistics allow
abbrev pub ComparisonsAreExact : Type 0
ComparisonsAreExact = (s : Known) (op : CompareOperator) (literal : Cell) (t : Truth) → ArePlainBounds s.lower s.upper
    → IsTrue (allows (compare_outcomes (Some s) op literal) t) ↔ OnSomeCell s (λ x. compare_truth op x literal ≡ t)

-- and so has a test for a prefix
abbrev pub PrefixesAreExact : Type 0
PrefixesAreExact = (s : Known) (prefix : Cell) (t : Truth) → ArePlainBounds s.lower s.upper
    → IsTrue (allows (prefix_outcomes (Some s) prefix) t) ↔ OnSomeCell s (λ x. prefix_truth x prefix ≡ t)

-- ---- the cells of the zone itself

-- both bounds are there, and are values of the zone
abbrev pub AreExactBounds : Option KnownBound → Option KnownBound → Type 0
AreExactBounds (Some lower) (Some upper) = (lower.is_exact ≡ true) × (upper.is_exact ≡ true)
AreExactBounds _ _ = ⊥

-- whether the comparison has this truth only at what is equal to the literal
abbrev pub needs_equal : CompareOperator → Truth → Bool
needs_equal Eq True = true
needs_equal NotEq False = true
needs_equal _ _ = false

-- P holds of some of the cells
abbrev pub OnSomeOf : List Cell → (Cell → Type 0) → Type 0
OnSomeOf cells P = (x : Cell) × Contains cells x × P x

-- Let the nulls be counted, and both bounds be values of the zone without parts. Then a comparison has just the outcomes that
-- it has on the cells of the zone, but for those that need an equal one.
abbrev pub ComparisonsOccur : Type 0
ComparisonsOccur = (s : Known) (cells : List Cell) → AreRight s cells → IsSome s.null_count
    → ArePlainBounds s.lower s.upper → AreExactBounds s.lower s.upper
    → (op : CompareOperator) (literal : Cell) (t : Truth) → is_null_cell literal ≡ false → needs_equal op t ≡ false
    → IsTrue (allows (compare_outcomes (Some s) op literal) t) ↔ OnSomeOf cells (λ x. compare_truth op x literal ≡ t)
