use Rattle.arrow_columns.specs.Columns.{item_cells}
use Rattle.arrow_columns.specs.Ranges.{AreWithinBefore}
use Rattle.arrow_columns.proofs.tested_rows.ItemRows.find_outside.Given as goal

abbrev pub invariant-loop-row : goal.invariant-loop-row
invariant-loop-row l = AreWithinBefore l.least l.greatest (item_cells l.self.kind l.self.column) l.row
