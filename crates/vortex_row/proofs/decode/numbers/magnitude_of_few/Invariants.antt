-- The bytes so far are those of the number so far.
use Rattle.vortex_row.specs.Keys.{inverted}
use Rattle.vortex_row.proofs.FewBytes.{AreFirst}
use Rattle.vortex_row.proofs.decode.numbers.magnitude_of_few.Given as goal

abbrev pub invariant-loop-taken : goal.invariant-loop-taken
invariant-loop-taken l = AreFirst (inverted l.invert l.bytes) l.taken l.number
