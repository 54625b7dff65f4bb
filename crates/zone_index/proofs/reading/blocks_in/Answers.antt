-- One more, the first error, and all of them.
use Rattle.std.proofs.Common.{map}
use Rattle.std.proofs.lemmas.Result.{err_from_is_err_and}
use Rattle.zone_index.specs.Encoding.{block_value}
use Rattle.zone_index.specs.EncodingReading.{many_at, block_at}
use Rattle.zone_index.proofs.ReadSteps.{goes_on, ends, is_done}
use Rattle.zone_index.proofs.WriteSteps.{values_push}
use Rattle.zone_index.proofs.reading.blocks_in.Goals as goal

pub returns-in_err-block : goal.returns-in_err-block
returns-in_err-block c =
    let p = err_from_is_err_and c.from_residual.result c.from_residual.ensures.1 in
    rw (p.1, p.2) (ends block_at c.in_err-block.field-0.0 (map block_value c.loop.blocks.items) c.args.count c.loop.counter c.loop.rest.now (many_at block_at c.args.count c.args.bytes.now) c.loop-test.true c.in_err-block.ensures c.loop.invariant)

pub loop-preserved : goal.loop-preserved
loop-preserved c =
    rw (values_push block_value c.loop.blocks.items c.push.new.self.items c.in_ok-block.block c.in_ok-push.ensures.items)
    (goes_on block_at (map block_value c.loop.blocks.items) c.args.count c.loop.counter c.loop.rest.now (block_value c.in_ok-block.block) c.in_ok-block.after.now (many_at block_at c.args.count c.args.bytes.now) c.loop-test.true c.in_ok-block.ensures c.loop.invariant)

pub returns : goal.returns
returns c = is_done block_at (map block_value c.loop.blocks.items) c.args.count c.loop.counter c.loop.rest.now (many_at block_at c.args.count c.args.bytes.now) c.loop-test.false c.loop.invariant
