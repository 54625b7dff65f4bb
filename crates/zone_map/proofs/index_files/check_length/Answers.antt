-- A block more.
use Rattle.std.proofs.Common.{rules, arith}
use Rattle.zone_scans.proofs.BlockSteps.{placed_more}
use Rattle.zone_map.proofs.index_files.check_length.Goals as goal

pub loop-block-preserved : goal.loop-block-preserved
loop-block-preserved c = (omega (arith, c.in-Some.ensures), placed_more c.args.blocks.now 0 _ _ c.loop-block.block-index c.block-item.result (search rules) c.block-item.is (omega (arith, c.in-Some.ensures)) c.loop-block.invariant.1)
