use Rattle.std.proofs.Common.{IsTrue, Some, true, length, rules}
use Rattle.truth_bitmaps.proofs.BlockSteps.{of-word}
use Rattle.truth_bitmaps.proofs.blocks.are_all_true.Goals as goal

pub returns-then-not-is_true_of_all : goal.returns-then-not-is_true_of_all
returns-then-not-is_true_of_all c =
    (λ h. cc, λ all. let each : IsTrue c.is_true_of_all.result = c.is_true_of_all.ensures.1 (of-word (Some true) c.args.words.now (length c.args.words.now) c.loop-word.word-index all (search rules)) in search rules)
