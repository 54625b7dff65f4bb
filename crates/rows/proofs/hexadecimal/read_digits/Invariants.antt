-- The bytes so far are those of the digits so far.
use Rattle.rows.proofs.DigitPairs.{IsReadTo}
use Rattle.rows.proofs.hexadecimal.read_digits.Given as goal

abbrev pub invariant-loop-i : goal.invariant-loop-i
invariant-loop-i l = IsReadTo l.word l.bytes l.i
