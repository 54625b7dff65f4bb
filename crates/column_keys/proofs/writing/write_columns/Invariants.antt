-- The columns so far.
use Rattle.column_keys.specs.Read.{AreWrittenIn}
use Rattle.column_keys.proofs.writing.write_columns.Given as goal

abbrev pub invariant-loop-which : goal.invariant-loop-which
invariant-loop-which l = AreWrittenIn l.kinds l.rows l.which l.initial.columns l.columns
