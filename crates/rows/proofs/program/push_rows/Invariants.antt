-- What was written so far and what the rest gives are what all gives.
use Rattle.std.proofs.Common.{◌≡◌, ◌++◌, length}
use Rattle.rows.specs.Rows.{rows_of}
use Rattle.rows.proofs.program.push_rows.Given as goal

abbrev pub invariant-loop-rest : goal.invariant-loop-rest
invariant-loop-rest l = l.output.items ++ rows_of l.rest ≡ l.initial.output.items ++ rows_of l.text

abbrev pub decreases-loop-rest : goal.decreases-loop-rest
decreases-loop-rest l = length l.rest
