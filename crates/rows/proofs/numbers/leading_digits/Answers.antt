-- A byte is read, or is no digit.
use Rattle.std.proofs.Common.{sym, ◌∙◌}
use Rattle.rows.proofs.Numerals.{read_more, read_other}
use Rattle.rows.proofs.numbers.leading_digits.Goals as goal

pub returns-then-not-is_ascii_digit : goal.returns-then-not-is_ascii_digit
returns-then-not-is_ascii_digit c =
    read_other _ _ _ _ c.min.ensures c.loop-count.invariant c.loop-count-test.true (sym c.is_ascii_digit.ensures.value ∙ c.if-not-is_ascii_digit.true)

pub loop-count-preserved : goal.loop-count-preserved
loop-count-preserved c =
    rw c.from.ensures (read_more _ _ _ c.loop-count.invariant c.loop-count-test.true (sym c.is_ascii_digit.ensures.value ∙ c.if-not-is_ascii_digit.false))
