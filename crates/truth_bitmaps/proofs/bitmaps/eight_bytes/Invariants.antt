use Rattle.std.proofs.Common.{◌*◌}
use Rattle.truth_bitmaps.proofs.ByteSteps.{Gathered}
use Rattle.truth_bitmaps.proofs.bitmaps.eight_bytes.Given as goal

abbrev pub invariant-loop-k : goal.invariant-loop-k
invariant-loop-k l = Gathered l.bytes l.place (8 * l.k) l.word
