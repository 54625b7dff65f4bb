-- Those so far are columns.
use Rattle.record_columns.specs.Columns.{AreColumns}
use Rattle.record_columns.proofs.columns.expect_columns.Given as goal

abbrev pub invariant-loop-which : goal.invariant-loop-which
invariant-loop-which l = AreColumns l.schema l.wanted l.which
