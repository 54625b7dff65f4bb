-- The guesses so far have seen their fields.
use Rattle.std.proofs.Common.{◌≡◌}
use Rattle.csv_columns.specs.Guesses.{fields_of}
use Rattle.csv_columns.proofs.Columns.{Shown}
use Rattle.csv_columns.proofs.guessing.see_record.Given as goal

abbrev pub invariant-loop-place : goal.invariant-loop-place
invariant-loop-place l =
    Shown l.fn.delimiter.byte l.reading (fields_of l.fn.delimiter.byte l.line) l.place l.initial.guesses l.guesses l.fields.follows × (l.fields.delimiter ≡ l.fn.delimiter)
