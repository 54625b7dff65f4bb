-- What parses is digits, but for a plus sign.
use Rattle.filter_sql.proofs.ColumnSteps.{plus_is_none, number_is}
use Rattle.filter_sql.proofs.parsing.column_names.digits_number.Goals as goal

pub returns-then-has_plus : goal.returns-then-has_plus
returns-then-has_plus c = plus_is_none c.args.digits.now (rw c.has_plus.ensures at c.if-has_plus.true)

pub returns : goal.returns
returns c = rw c.ok.ensures.value (number_is c.args.digits.now c.parse.result c.parse.ensures.value.0 (rw c.has_plus.ensures at c.if-has_plus.false))
