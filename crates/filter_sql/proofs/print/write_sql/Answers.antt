use Rattle.std.proofs.Output.{has_written_of_eq}
use Rattle.std.proofs.Common.{sym}
use Rattle.vortex_filter.specs.Formula.{formula}
use Rattle.filter_sql.specs.LiteralWords.{word_trees}
use Rattle.filter_sql.specs.Printing.{names_of}
use Rattle.filter_sql.specs.declared.print.Level.TheVariants as levels
use Rattle.filter_sql.proofs.Phrases.{printed}
use Rattle.filter_sql.proofs.print.write_sql.Goals as goal

pub returns : goal.returns
returns g c plain ok = has_written_of_eq _ _ _ _ _ (sym (printed (names_of c.args.columns.now) (word_trees c.args.words.now) levels.Or (formula c.args.filter.now)).text) (c.write_filter.ensures plain ok)
