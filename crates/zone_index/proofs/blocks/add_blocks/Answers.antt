-- A block more, the first error, and nothing but blocks.
use Rattle.std.proofs.Common.{arith, refl}
use Rattle.std.proofs.lemmas.Result.{err_from_is_err_and}
use Rattle.zone_index.specs.Encoding.{zone_values}
use Rattle.zone_index.proofs.ReadSteps.{added_done, added_fails, added_more, added_trails, front_fails}
use Rattle.zone_index.proofs.blocks.add_blocks.Goals as goal

pub loop-place-init : goal.loop-place-init
loop-place-init c = refl

pub returns-in_err-front : goal.returns-in_err-front
returns-in_err-front c =
    let p = err_from_is_err_and c.from_residual.result c.from_residual.ensures.1 in
    rw (p.1, p.2) (front_fails c.args.wanted.now c.args.blocks.now (zone_values c.args.zones.now) (zone_values c.loop-place.zones) c.args.bytes.now c.loop-place.rest.now c.loop-place.place c.index-blocks-place.result c.in_err-front.field-0.0 (omega (arith, c.loop-place-test.true)) c.index-blocks-place.is c.in_err-front.ensures.read c.loop-place.invariant)

pub returns-in_err-add_block : goal.returns-in_err-add_block
returns-in_err-add_block c =
    let p = err_from_is_err_and c.from_residual-in_err-add_block.result c.from_residual-in_err-add_block.ensures.1 in
    rw (p.1, p.2) (added_fails c.args.wanted.now c.args.blocks.now (zone_values c.args.zones.now) (zone_values c.loop-place.zones) c.args.bytes.now c.loop-place.rest.now c.in_ok-front.front.now c.in_ok-front.after.now c.loop-place.place c.index-blocks-place.result c.is_wanted.result c.in_err-add_block.field-0.0 (omega (arith, c.loop-place-test.true)) c.index-blocks-place.is c.in_ok-front.ensures.read c.is_wanted.ensures c.in_err-add_block.ensures c.loop-place.invariant)

pub loop-place-preserved : goal.loop-place-preserved
loop-place-preserved c =
    added_more c.args.wanted.now c.args.blocks.now (zone_values c.args.zones.now) (zone_values c.loop-place.zones) (zone_values c.add_block.new.zones) c.args.bytes.now c.loop-place.rest.now c.in_ok-front.front.now c.in_ok-front.after.now c.loop-place.place c.index-blocks-place.result c.is_wanted.result (omega (arith, c.loop-place-test.true)) c.index-blocks-place.is c.in_ok-front.ensures.read c.is_wanted.ensures c.in_ok-add_block.ensures c.loop-place.invariant

pub returns-then-is_empty : goal.returns-then-is_empty
returns-then-is_empty c = added_done c.args.wanted.now c.args.blocks.now (zone_values c.args.zones.now) (zone_values c.loop-place.zones) c.args.bytes.now c.loop-place.rest.now c.loop-place.place c.is_empty.result (omega (arith, c.loop-place-test.false)) c.is_empty.ensures c.if-is_empty.true c.loop-place.invariant

pub returns-else-is_empty : goal.returns-else-is_empty
returns-else-is_empty c = added_trails c.args.wanted.now c.args.blocks.now (zone_values c.args.zones.now) (zone_values c.loop-place.zones) c.args.bytes.now c.loop-place.rest.now c.loop-place.place c.is_empty.result (omega (arith, c.loop-place-test.false)) c.is_empty.ensures c.if-is_empty.false c.loop-place.invariant
