-- The digits so far are read.
use Rattle.rows.proofs.Numerals.{IsReadTo}
use Rattle.rows.proofs.numbers.leading_digits.Given as goal

abbrev pub invariant-loop-count : goal.invariant-loop-count
invariant-loop-count l = IsReadTo l.front l.count l.number
