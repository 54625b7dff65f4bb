-- The guesses of the records before what is left, which gets shorter.
use Rattle.std.proofs.Common.{length}
use Rattle.csv_columns.proofs.Columns.{Guessed}
use Rattle.csv_columns.proofs.guessing.guesses_of.Given as goal

abbrev pub invariant-loop-rest : goal.invariant-loop-rest
invariant-loop-rest l = Guessed l.delimiter.byte l.reading l.records l.rest l.guesses.items

abbrev pub decreases-loop-rest : goal.decreases-loop-rest
decreases-loop-rest l = length l.rest
