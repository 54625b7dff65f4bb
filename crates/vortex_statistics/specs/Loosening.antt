-- Bounds that were loosened, as by truncation, or dropped.
use Rattle.std.specs.Prelude.{◌≡◌, true, List, Option, Some, None}
use Rattle.std.specs.declared.cmp.Ordering.{Ordering}
use Rattle.std.specs.declared.cmp.Ordering.TheVariants.{Equal}
use Rattle.vortex_cells.specs.Cells.{Cell, IsUpTo, cell_order, order_from_above}
use Rattle.vortex_statistics.specs.Statistics.{AreRight, Known, KnownBound}

-- no bound, or one that the bound before is not before, in this order. If it is exact, so was the one before, and the two
-- are equal.
abbrev pub IsLooser : (Cell → Cell → Option Ordering) → Option KnownBound → Option KnownBound → Type 0
IsLooser cmp None before = Unit {0}
IsLooser cmp (Some b) None = ⊥
IsLooser cmp (Some b) (Some before) =
    IsUpTo cmp b.value before.value × (b.is_exact ≡ true → (before.is_exact ≡ true) × (cmp b.value before.value ≡ Some Equal))

-- statistics with looser bounds and the same counts are right for all cells that those before are right for
abbrev pub LooserBoundsAreRight : Type 0
LooserBoundsAreRight = (s : Known) (lower upper : Option KnownBound) (cells : List Cell)
    → AreRight s cells → IsLooser cell_order lower s.lower → IsLooser order_from_above upper s.upper → AreRight (record s { lower = lower; upper = upper }) cells
