-- One column more, and the first error.
use Rattle.std.proofs.Common.{arith}
use Rattle.arrow_columns.specs.Columns.{rows_in}
use Rattle.column_cells.proofs.TableSteps.{sound-more}
use Rattle.column_keys.proofs.ColumnSteps.{read-more, table-fault, table-refused}
use Rattle.column_keys.specs.Tables.{IsSoundAt}
use Rattle.column_keys.proofs.key_columns.read_columns.Goals as goal

pub returns-in_err-expect_columns-clause-fault : goal.returns-in_err-expect_columns-clause-fault
returns-in_err-expect_columns-clause-fault c = table-refused c.args.columns.now c.args.options.now _ _ c.from_residual.ensures c.in_err-expect_columns.ensures.fault

pub returns-in_default-clause-fault : goal.returns-in_default-clause-fault
returns-in_default-clause-fault c = (omega (arith, c.if-options-columns.false), c.in_ok-expect_columns.ensures.sound)

pub returns-in_err-column-clause-fault : goal.returns-in_err-column-clause-fault
returns-in_err-column-clause-fault c =
    table-refused c.args.columns.now c.args.options.now _ _ c.from_residual-in_err-column.ensures
    (table-fault c.args.columns.now c.args.options.now c.loop-place.place _ _ (omega (arith, c.if-options-columns.false)) c.loop-place-test.true c.loop-place.invariant.1 (rw c.row_count_of-count.ensures at c.in_err-column.ensures.fault))

pub loop-place-preserved : goal.loop-place-preserved
loop-place-preserved c =
    let read = rw c.row_count_of-count.ensures at c.in_ok-column.ensures.read in
    let counts = c.if-options-columns.false in
    let here = c.loop-place-test.true in (
      read-more c.args.columns.now c.args.options.now c.loop-place.place _ c.loop-place.table.items c.push_reserved.new.self.items _ here (omega (arith, here, counts)) c.loop-place.invariant.0 read c.push_reserved.ensures.items,
      sound-more (IsSoundAt c.args.options.now (rows_in c.args.columns.now)) c.args.columns.now c.loop-place.place _ here c.loop-place.invariant.1 read.sound,
      omega (arith, c.push_reserved.ensures.len, c.loop-place.invariant.2),
      omega (arith, c.push_reserved.ensures.capacity, c.loop-place.invariant.3),
    )
