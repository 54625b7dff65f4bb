-- A number is a text.
use Rattle.csv_columns.proofs.PlainNumbers.{no_text_is_not_plain}
use Rattle.csv_columns.proofs.kinds.plain_number.Goals as goal

pub returns-in_default-clause-none : goal.returns-in_default-clause-none
returns-in_default-clause-none c = no_text_is_not_plain c.args.word.now c.in_default.ensures.cases.0
