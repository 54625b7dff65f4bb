-- The columns so far.
use Rattle.std.proofs.Common.{map}
use Rattle.record_search.specs.Searched.{row_cells}
use Rattle.record_columns.specs.Columns.{IsColumnOf}
use Rattle.record_columns.proofs.BufferSteps.{AreChangedTo}
use Rattle.record_columns.proofs.buffers.write_wanted.Given as goal

abbrev pub invariant-loop-which : goal.invariant-loop-which
invariant-loop-which l = AreChangedTo (IsColumnOf l.schema (map row_cells l.rows)) l.wanted l.which l.initial.columns l.columns
