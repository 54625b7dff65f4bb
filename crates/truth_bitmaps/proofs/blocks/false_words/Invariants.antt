use Rattle.std.proofs.Common.{◌≡◌, replicate}
use Rattle.truth_bitmaps.specs.Truths.{no_row}
use Rattle.truth_bitmaps.proofs.blocks.false_words.Given as goal

-- each word pushed is of rows of which it is False
abbrev pub invariant-loop-word : goal.invariant-loop-word
invariant-loop-word l = l.words.items ≡ replicate l._word no_row
