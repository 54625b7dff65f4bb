use Rattle.std.proofs.Common.{◌+◌, ◌*◌, slice_index_or}
use Rattle.truth_bitmaps.specs.Truths.{bit_in, no_row, truth_in, under_null}
use Rattle.truth_bitmaps.proofs.BlockSteps.{Written}
use Rattle.truth_bitmaps.proofs.bitmaps.mark_nulls.Given as goal

abbrev pub invariant-loop-k : goal.invariant-loop-k
invariant-loop-k l = Written (λ j row. under_null (bit_in l.validity (l.offset + (64 * j + row))) (truth_in (slice_index_or l.fn.words j no_row) row)) l.fn.words l.words l.k
