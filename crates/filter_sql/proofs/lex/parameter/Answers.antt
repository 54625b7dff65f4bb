-- The digits end within the text.
use Rattle.filter_sql.proofs.Cuts.{digits_within, digits_end, parameter_end}
use Rattle.filter_sql.proofs.lex.parameter.Goals as goal

pub past-after-requires-clause-within : goal.past-after-requires-clause-within
past-after-requires-clause-within c = digits_within c.past-digits.result.now _ (rw c.as_bytes.ensures.value at c.digits_len-count.ensures)

pub past-after-requires-clause-ascii : goal.past-after-requires-clause-ascii
past-after-requires-clause-ascii c = digits_end c.past-digits.result.now _ (rw c.as_bytes.ensures.value at c.digits_len-count.ensures) c.if-count-eq0.false

pub name-requires-clause-ascii : goal.name-requires-clause-ascii
name-requires-clause-ascii c =
    rw (c.past-after.ensures, c.past-digits.ensures)
    (parameter_end c.args.text.now c.digits_len-count.result (rw (c.as_bytes.ensures.value, c.past-digits.ensures) at c.digits_len-count.ensures) c.if-count-eq0.false)
