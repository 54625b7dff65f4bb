use Rattle.std.proofs.Common.{◌+◌, ◌*◌, Some, if◌then◌else◌}
use Rattle.truth_bitmaps.specs.Truths.{bit_in}
use Rattle.truth_bitmaps.proofs.BlockSteps.{Written}
use Rattle.truth_bitmaps.proofs.bitmaps.write_bits.Given as goal

abbrev pub invariant-loop-k : goal.invariant-loop-k
invariant-loop-k l = Written (λ j row. Some (if bit_in l.bitmap (l.offset + (64 * j + row)) then l.if_set else l.if_clear)) l.fn.words l.words l.k
