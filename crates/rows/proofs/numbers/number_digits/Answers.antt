-- A digit after those that fit 64 bits.
use Rattle.std.proofs.Common.{sym, ◌∙◌}
use Rattle.rows.proofs.Numerals.{last_read, small_number}
use Rattle.rows.proofs.numbers.number_digits.Goals as goal

pub returns-then-is_ascii_digit-clause-read : goal.returns-then-is_ascii_digit-clause-read
returns-then-is_ascii_digit-clause-read c =
    rw (c.from-number.ensures, c.from.ensures)
    (last_read _ _ _ c.leading_digits-number.ensures c.if-count-text.true (sym c.is_ascii_digit.ensures.value ∙ c.if-is_ascii_digit.true))

pub returns-then-is_ascii_digit-clause-small : goal.returns-then-is_ascii_digit-clause-small
returns-then-is_ascii_digit-clause-small c = small_number _ _ _ (returns-then-is_ascii_digit-clause-read c)
