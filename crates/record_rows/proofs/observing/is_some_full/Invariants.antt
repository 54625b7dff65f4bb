-- The statistics so far are not full.
use Rattle.std.proofs.Common.{◌≡◌, ◌<◌, ℕ, get_or}
use Rattle.record_rows.specs.Observed.{IsFull}
use Rattle.record_rows.proofs.observing.is_some_full.Given as goal
use Rattle.vortex_statistics.specs.declared.column_statistics.ColumnStatistics.{ColumnStatistics}

abbrev pub invariant-loop-column : goal.invariant-loop-column
invariant-loop-column l = (k : ℕ) (s : ColumnStatistics) → k < l.column-index → get_or l.statistics k s ≡ s → IsFull s → ⊥
