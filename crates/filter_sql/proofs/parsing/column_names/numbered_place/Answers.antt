-- No dollar sign stands first.
use Rattle.std.proofs.Common.{lit<}
use Rattle.std.proofs.lemmas.Str.Pattern.{strip_prefix_char}
use Rattle.filter_sql.proofs.ColumnSteps.{no_dollar}
use Rattle.filter_sql.proofs.parsing.column_names.numbered_place.Goals as goal

pub returns-in-None : goal.returns-in-None
returns-in-None c = no_dollar c.args.name.now (rw c.in-None.is at (strip_prefix_char 36 c.args.name.now c.strip_prefix.result c.strip_prefix.ensures.cases (lit< tt)))
