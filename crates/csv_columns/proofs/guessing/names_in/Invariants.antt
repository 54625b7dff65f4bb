-- The names of the fields so far; what is left gets shorter.
use Rattle.std.proofs.Common.{◌≡◌}
use Rattle.csv_columns.specs.Guesses.{fields_of, left_of, without_mark}
use Rattle.csv_columns.specs.Names.{texts}
use Rattle.csv_columns.proofs.Columns.{Named}
use Rattle.csv_columns.proofs.guessing.names_in.Given as goal

abbrev pub invariant-loop-buffer : goal.invariant-loop-buffer
invariant-loop-buffer l =
    Named l.fn.delimiter.byte (fields_of l.fn.delimiter.byte (without_mark l.header)) (texts l.names.items) l.fields.follows × (l.fields.delimiter ≡ l.fn.delimiter)

abbrev pub decreases-loop-buffer : goal.decreases-loop-buffer
decreases-loop-buffer l = left_of l.fields.follows
