-- What is counted of the cells so far.
use Rattle.std.proofs.Common.{◌≡◌}
use Rattle.vortex_value.specs.Size.{capped}
use Rattle.column_cells.specs.Contents.{contents_of_rows}
use Rattle.column_keys.specs.Keys.{column_length}
use Rattle.column_keys.proofs.lengths.cells_length.Given as goal

abbrev pub invariant-loop-row : goal.invariant-loop-row
invariant-loop-row l = l.total ≡ capped (column_length (contents_of_rows l.rows) l.row)
