-- A byte more is read, or one of two bytes is no digit.
use Rattle.std.proofs.Common.{arith, sym, ◌∙◌}
use Rattle.rows.proofs.DigitPairs.{all_read, one_bad, one_more}
use Rattle.rows.proofs.hexadecimal.read_digits.Goals as goal

pub returns-in_err-bytes : goal.returns-in_err-bytes
returns-in_err-bytes c =
    one_bad _ _ _ _ _ c.if-word-ne0.false c.if-word-bytes.false (omega arith) (sym c.byte_of.ensures ∙ c.in_err-bytes.was) c.loop-i.invariant c.from_residual.ensures

pub loop-i-preserved : goal.loop-i-preserved
loop-i-preserved c =
    one_more _ _ _ _ (omega arith) (omega arith) (sym c.byte_of.ensures ∙ c.in_ok-bytes.was) c.loop-i.invariant

pub returns : goal.returns
returns c = all_read _ _ _ _ c.if-word-ne0.false c.if-word-bytes.false (omega arith) (omega arith) c.loop-i.invariant
