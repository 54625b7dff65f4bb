-- Each column so far has one of the names.
use Rattle.std.proofs.Common.{◌<◌, [], get_or, ℕ}
use Rattle.std.specs.Prelude.{Contains}
use Rattle.csv_columns.specs.Guesses.{column_names}
use Rattle.csv_columns.specs.Names.{texts}
use Rattle.csv_columns.proofs.guessing.are_named.Given as goal

abbrev pub invariant-loop-named : goal.invariant-loop-named
invariant-loop-named l = (k : ℕ) → k < l.named-index → Contains (texts l.names) (get_or (column_names l.columns) k [])
