-- The counts so far, and whether the buffers were long enough.
use Rattle.column_keys.specs.Read.{AreCountedIn}
use Rattle.column_keys.proofs.ColumnsRead.{TellsSpace}
use Rattle.column_keys.proofs.counting.count_columns.Given as goal

abbrev pub invariant-loop-which : goal.invariant-loop-which
invariant-loop-which l = AreCountedIn l.kinds l.rows l.which l.initial.columns l.columns × TellsSpace l.suffices l.kinds l.rows l.which l.columns
