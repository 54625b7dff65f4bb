-- What was passed adds no row.
use Rattle.std.proofs.Common.{◌≡◌, ◌≤◌, ℕ, length}
use Rattle.csv_records.specs.Words.{rows_of}
use Rattle.csv_records.proofs.fields.row_start.Given as goal

abbrev pub invariant-loop-rest : goal.invariant-loop-rest
invariant-loop-rest l = ((d : ℕ) → rows_of d l.line ≡ rows_of d l.rest) × (length l.rest ≤ length l.line)

abbrev pub decreases-loop-rest : goal.decreases-loop-rest
decreases-loop-rest l = length l.rest
