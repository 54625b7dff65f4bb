use Rattle.std.proofs.Common.{◌*◌, Some, true}
use Rattle.truth_bitmaps.specs.Truths.{AreAll}
use Rattle.truth_bitmaps.proofs.blocks.are_all_true.Given as goal

-- the words before this one are decided
abbrev pub invariant-loop-word : goal.invariant-loop-word
invariant-loop-word l = AreAll (Some true) l.words (64 * l.word-index)
