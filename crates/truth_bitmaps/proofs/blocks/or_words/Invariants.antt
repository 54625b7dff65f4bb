use Rattle.truth_bitmaps.specs.Truths.{no_row, truth_in, truth_or}
use Rattle.std.proofs.Common.{slice_index_or}
use Rattle.truth_bitmaps.proofs.BlockSteps.{Written}
use Rattle.truth_bitmaps.proofs.blocks.or_words.Given as goal

abbrev pub invariant-loop-k : goal.invariant-loop-k
invariant-loop-k l = Written (λ j row. truth_or (truth_in (slice_index_or l.fn.words j no_row) row) (truth_in (slice_index_or l.others j no_row) row)) l.fn.words l.words l.k
