-- The filter over the columns by name and type, or why there is none.
use Rattle.std.proofs.Common.{◌∙◌, ap}
use Rattle.filter_sql.specs.ColumnNames.{column_trees}
use Rattle.vortex_c.specs.FilterSql.{trees_of_kinds}
use Rattle.vortex_c.proofs.SqlSteps.{memory-text, text-along, words-read}
use Rattle.vortex_c.proofs.sql.filter_of.Goals as goal

pub returns-in_err-named-clause-refused : goal.returns-in_err-named-clause-refused
returns-in_err-named-clause-refused c = memory-text c.args.depth (trees_of_kinds c.args.columns.now) c.args.text.now _ _ c.from_residual.ensures c.in_err-named.ensures.refused

pub returns-clause-read : goal.returns-clause-read
returns-clause-read c = words-read c.args.depth c.args.text.now c.args.columns.now _ _ (ap column_trees c.deref.ensures.value ∙ c.in_ok-named.ensures.named) c.parse.ensures.read

pub returns-clause-refused : goal.returns-clause-refused
returns-clause-refused c = text-along c.args.depth (trees_of_kinds c.args.columns.now) _ c.args.text.now _ (ap column_trees c.deref.ensures.value ∙ c.in_ok-named.ensures.named) c.parse.ensures.refused
