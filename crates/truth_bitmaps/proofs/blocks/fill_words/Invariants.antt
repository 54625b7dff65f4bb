use Rattle.truth_bitmaps.proofs.BlockSteps.{Written}
use Rattle.truth_bitmaps.proofs.blocks.fill_words.Given as goal

abbrev pub invariant-loop-k : goal.invariant-loop-k
invariant-loop-k l = Written (λ j row. l.truth) l.fn.words l.words l.k
