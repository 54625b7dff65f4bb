-- One column more, and the end of the row.
use Rattle.std.proofs.Common.{arith}
use Rattle.vortex_dtype.specs.TypeOf.{dtype_trees}
use Rattle.vortex_row.proofs.RowDecodeSteps.{columns-end, columns-more, columns-start, columns-within, row-refused, same-option}
use Rattle.vortex_row.proofs.decode.columns.decode_columns.Goals as goal

pub decode_at-requires : goal.decode_at-requires
decode_at-requires c = columns-within _ _ _ _ _ _ _ c.loop-column.invariant

pub loop-column-init : goal.loop-column-init
loop-column-init c = columns-start c.args.options.now (dtype_trees c.args.dtypes.now) c.in_ok-scalars.scalars.items c.args.bytes.now c.in_ok-scalars.ensures.items

pub loop-column-preserved : goal.loop-column-preserved
loop-column-preserved c =
    let here = c.loop-column-test.true in
    let same = c.requires in
    columns-more c.args.options.now c.args.dtypes.now c.loop-column.column c.loop-column.scalars.items _ c.in-Ok.scalar c.args.bytes.now _ c.index-dtypes-column.result c.loop-column.place c.in-Ok.next here (omega arith)
    c.index-dtypes-column.is (same-option c.loop-column.column c.args.options.now _ (omega arith)) c.loop-column.invariant c.in-Ok.ensures c.in_ok-push-in-Ok.ensures.items

pub returns-in-Err : goal.returns-in-Err
returns-in-Err c =
    let here = c.loop-column-test.true in
    let same = c.requires in
    row-refused c.args.options.now c.args.dtypes.now c.loop-column.column c.loop-column.scalars.items c.args.bytes.now _ c.index-dtypes-column.result c.loop-column.place c.in-Err.error c.of_row.result here (omega arith) c.index-dtypes-column.is
    (same-option c.loop-column.column c.args.options.now _ (omega arith)) c.loop-column.invariant c.in-Err.ensures c.of_row.ensures

pub returns : goal.returns
returns c = columns-end c.args.options.now c.args.dtypes.now c.loop-column.column c.loop-column.scalars.items c.args.bytes.now c.loop-column.place c.requires c.loop-column-test.false c.loop-column.invariant
