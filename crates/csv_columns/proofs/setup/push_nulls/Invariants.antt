-- The text has the lines of the words so far.
use Rattle.std.proofs.Common.{◌≡◌, ◌++◌, take}
use Rattle.std.specs.Prelude.{string_bytes}
use Rattle.csv_columns.specs.Names.{texts}
use Rattle.csv_columns.specs.Setups.{null_lines}
use Rattle.csv_columns.proofs.setup.push_nulls.Given as goal

abbrev pub invariant-loop-null : goal.invariant-loop-null
invariant-loop-null l = string_bytes l.text ≡ string_bytes l.initial.text ++ null_lines (texts (take l.null-index l.nulls))
