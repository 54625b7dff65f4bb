-- A guess for each field so far; what is left gets shorter.
use Rattle.std.proofs.Common.{◌≡◌}
use Rattle.csv_columns.specs.Guesses.{fields_of, left_of}
use Rattle.csv_columns.proofs.Columns.{Begun}
use Rattle.csv_columns.proofs.guessing.first_guesses.Given as goal

abbrev pub invariant-loop-buffer : goal.invariant-loop-buffer
invariant-loop-buffer l =
    Begun l.fn.delimiter.byte l.reading (fields_of l.fn.delimiter.byte l.line) l.guesses.items l.fields.follows × (l.fields.delimiter ≡ l.fn.delimiter)

abbrev pub decreases-loop-buffer : goal.decreases-loop-buffer
decreases-loop-buffer l = left_of l.fields.follows
