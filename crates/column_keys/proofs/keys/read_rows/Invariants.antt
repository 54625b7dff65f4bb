-- The rows so far.
use Rattle.column_keys.proofs.RowsRead.{AreRowsBefore}
use Rattle.column_keys.proofs.keys.read_rows.Given as goal

abbrev pub invariant-loop-row : goal.invariant-loop-row
invariant-loop-row l = AreRowsBefore l.keys l.row l.rows.items
