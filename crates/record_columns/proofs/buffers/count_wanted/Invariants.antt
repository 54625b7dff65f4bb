-- The counts so far, and whether the buffers were long enough.
use Rattle.std.proofs.Common.{map}
use Rattle.record_search.specs.Searched.{row_cells}
use Rattle.record_columns.specs.Columns.{IsCountOf}
use Rattle.record_columns.proofs.BufferSteps.{AreChangedTo, TellsReady}
use Rattle.record_columns.proofs.buffers.count_wanted.Given as goal

abbrev pub invariant-loop-which : goal.invariant-loop-which
invariant-loop-which l = record {
  counted : AreChangedTo (IsCountOf l.schema (map row_cells l.rows)) l.wanted l.which l.initial.columns l.columns;
  ready : TellsReady l.suffices l.schema (map row_cells l.rows) l.wanted l.which l.columns;
}
