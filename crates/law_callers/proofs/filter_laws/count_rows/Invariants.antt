-- The matching rows so far.
use Rattle.std.proofs.Common.{◌≡◌, ◌≤◌, length, map, take}
use Rattle.vortex_cells.specs.Cells.{cell_of}
use Rattle.vortex_filter.specs.Formula.{formula}
use Rattle.filter_pruning.specs.Searching.{matching}
use Rattle.law_callers.proofs.filter_laws.count_rows.Given as goal

abbrev pub invariant-loop-row : goal.invariant-loop-row
invariant-loop-row l = record {
  counted : l.total ≡ length (matching (formula l.filter) (map (λ row. map cell_of row.items) (take l.row-index l.rows)));
  few : l.total ≤ l.row-index;
}
