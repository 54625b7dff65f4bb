-- Each byte is 0.
use Rattle.std.proofs.Common.{arith}
use Rattle.column_keys.proofs.BitSteps.{zeros-done}
use Rattle.column_keys.proofs.writing.clear.Goals as goal

pub returns : goal.returns
returns c = zeros-done c.loop-byte.bitmap c.loop-byte.byte-index (omega arith) c.loop-byte.invariant
