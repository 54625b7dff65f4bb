-- One bit more.
use Rattle.std.proofs.Common.{arith, map}
use Rattle.vortex_value.specs.Values.Content.{content}
use Rattle.vortex_value.specs.Values.Scalars.{scalar_content}
use Rattle.column_keys.specs.Cells.{raws_in}
use Rattle.column_keys.specs.Layout.{truth_in}
use Rattle.column_keys.proofs.BitSteps.{bit-clear, bits-done, bits-more, bits-none}
use Rattle.column_keys.proofs.RowsRead.{content-at, raws-count}
use Rattle.column_keys.proofs.writing.write_booleans.Goals as goal

pub loop-row-init : goal.loop-row-init
loop-row-init c = bits-none truth_in (map content (raws_in c.args.rows.now c.args.which)) c.clear.new.bitmap c.clear.ensures

pub put_bit-requires-clause-clear : goal.put_bit-requires-clause-clear
put_bit-requires-clause-clear c = bit-clear truth_in (map content (raws_in c.args.rows.now c.args.which)) c.loop-row.row c.loop-row.values c.loop-row.invariant

pub loop-row-preserved : goal.loop-row-preserved
loop-row-preserved c =
    let raws = raws_in c.args.rows.now c.args.which in
    let x = c.cell_at.result.now in
    bits-more truth_in (map content raws) c.loop-row.row c.loop-row.values c.put_bit.new.bitmap (scalar_content x) _ (content-at raws c.loop-row.row x c.cell_at.ensures) c.loop-row.invariant c.truth_or_false.ensures c.put_bit.ensures.bit c.put_bit.ensures.others

pub returns : goal.returns
returns c =
    let count = raws-count c.args.rows.now c.args.which in
    bits-done truth_in (map content (raws_in c.args.rows.now c.args.which)) c.loop-row.row c.loop-row.values (omega (arith, count)) c.loop-row.invariant
