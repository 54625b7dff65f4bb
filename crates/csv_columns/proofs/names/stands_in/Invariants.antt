-- No name so far is this one.
use Rattle.std.proofs.Common.{◌≢◌, ◌<◌, ℕ, get_or}
use Rattle.csv_columns.specs.Names.{texts}
use Rattle.csv_columns.proofs.names.stands_in.Given as goal

abbrev pub invariant-loop-one : goal.invariant-loop-one
invariant-loop-one l = (k : ℕ) → k < l.one-index → get_or (texts l.names) k l.name ≢ l.name
