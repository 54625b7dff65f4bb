-- The columns so far have values.
use Rattle.column_keys.specs.Read.{HaveStored}
use Rattle.column_keys.proofs.stored.expect_values.Given as goal

abbrev pub invariant-loop-column : goal.invariant-loop-column
invariant-loop-column l = HaveStored l.kinds l.rows l.column
