-- One column more, and the first error.
use Rattle.arrow_columns.specs.Columns.{rows_in}
use Rattle.column_cells.proofs.TableSteps.{sound-more}
use Rattle.column_keys.proofs.ColumnSteps.{table-fault, table-refused}
use Rattle.column_keys.specs.Tables.{IsSoundAt}
use Rattle.column_keys.proofs.key_columns.expect_columns.Goals as goal

pub returns-in_err-key_column-clause-fault : goal.returns-in_err-key_column-clause-fault
returns-in_err-key_column-clause-fault c =
    table-refused c.args.columns.now c.args.options.now _ _ c.from_residual.ensures
    (table-fault c.args.columns.now c.args.options.now c.loop-place.place _ _ c.requires c.loop-place-test.true c.loop-place.invariant (rw c.row_count_of-count.ensures at c.in_err-key_column.ensures.fault))

pub loop-place-preserved : goal.loop-place-preserved
loop-place-preserved c =
    let read = rw c.row_count_of-count.ensures at c.in_ok-key_column.ensures.read in
    sound-more (IsSoundAt c.args.options.now (rows_in c.args.columns.now)) c.args.columns.now c.loop-place.place _ c.loop-place-test.true c.loop-place.invariant read.sound
