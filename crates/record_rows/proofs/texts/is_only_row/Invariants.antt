-- The rest of the row has as many rows behind it.
use Rattle.std.proofs.Common.{◌≡◌, length}
use Rattle.csv_records.specs.Rows.{field_rows}
use Rattle.record_rows.proofs.texts.is_only_row.Given as goal

abbrev pub invariant-loop-rest : goal.invariant-loop-rest
invariant-loop-rest l = length (field_rows l.delimiter.byte l.text) ≡ length (field_rows l.delimiter.byte l.rest)

abbrev pub decreases-loop-rest : goal.decreases-loop-rest
decreases-loop-rest l = length l.rest
