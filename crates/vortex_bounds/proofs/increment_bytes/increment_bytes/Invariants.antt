use Rattle.vortex_bounds.proofs.NextString.{IsCarriedTo}
use Rattle.vortex_bounds.proofs.increment_bytes.increment_bytes.Given as goal

abbrev pub invariant-loop-i : goal.invariant-loop-i
invariant-loop-i l = IsCarriedTo l.initial.bytes l.bytes l.i
