use Rattle.std.proofs.Common.{arith, rules}
use Rattle.truth_bitmaps.specs.Truths.{truth_or}
use Rattle.truth_bitmaps.proofs.BlockSteps.{of-both, step}
use Rattle.truth_bitmaps.proofs.blocks.or_words.Goals as goal

pub loop-k-preserved : goal.loop-k-preserved
loop-k-preserved c =
    step _ _ c.loop-k.words c.loop-k.k c.or.result c.loop-k.invariant (search rules)
    (of-both truth_or c.or.result _ _ _ (c.loop-k.invariant.rest c.loop-k.k (omega arith)) c.or.ensures)
