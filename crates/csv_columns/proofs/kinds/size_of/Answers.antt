-- A text that begins with no minus.
use Rattle.std.proofs.Common.{None, arith}
use Rattle.std.proofs.lemmas.Str.Pattern.{strip_prefix_char}
use Rattle.csv_columns.proofs.PlainNumbers.{no_minus}
use Rattle.csv_columns.proofs.kinds.size_of.Goals as goal

pub returns-in-None : goal.returns-in-None
returns-in-None c = no_minus c.args.text.now (strip_prefix_char 45 c.args.text.now None c.in-None.ensures.cases (omega arith))
