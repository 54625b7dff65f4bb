-- One row more, or the first key that is none.
use Rattle.std.proofs.Common.{arith}
use Rattle.column_keys.proofs.RowsRead.{rows-done, rows-more, rows-none, rows-refused}
use Rattle.column_keys.proofs.keys.read_rows.Goals as goal

pub loop-row-init : goal.loop-row-init
loop-row-init c = rows-none c.args.keys.now c.new-rows.result.items c.new-rows.ensures.items

pub loop-row-preserved : goal.loop-row-preserved
loop-row-preserved c = rows-more c.args.keys.now c.loop-row.row c.loop-row.rows.items _ c.in_ok-cells.cells c.loop-row.invariant c.in_ok-cells.ensures.cells c.in_ok-push.ensures.items

pub returns-clause-rows : goal.returns-clause-rows
returns-clause-rows c = rows-done c.args.keys.now c.loop-row.row c.loop-row.rows.items (omega (arith, c.key_count-row-end.ensures)) c.loop-row.invariant

pub returns-in_err-cells-clause-fault : goal.returns-in_err-cells-clause-fault
returns-in_err-cells-clause-fault c =
    rows-refused c.args.keys.now c.loop-row.row c.loop-row.rows.items _ _ c.from_residual.ensures (omega (arith, c.loop-row-test.true, c.key_count-row-end.ensures)) c.loop-row.invariant c.in_err-cells.ensures.fault
