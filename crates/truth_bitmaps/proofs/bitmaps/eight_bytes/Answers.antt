use Rattle.std.proofs.Common.{arith, rules}
use Rattle.truth_bitmaps.proofs.ByteSteps.{one-byte}
use Rattle.truth_bitmaps.proofs.bitmaps.eight_bytes.Goals as goal

pub loop-k-preserved : goal.loop-k-preserved
loop-k-preserved c = one-byte _ _ c.loop-k.k c.loop-k.word c.from.result (omega arith) c.loop-k.invariant (search rules) (omega arith)
