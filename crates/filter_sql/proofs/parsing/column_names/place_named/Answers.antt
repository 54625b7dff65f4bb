-- The columns' names are the names of their trees.
use Rattle.std.proofs.Common.{ap, ◌∙◌}
use Rattle.filter_sql.specs.ColumnNames.{or_numbered}
use Rattle.filter_sql.proofs.ColumnSteps.{first_named}
use Rattle.filter_sql.proofs.parsing.column_names.place_named.Goals as goal

pub returns-in-Some : goal.returns-in-Some
returns-in-Some c = ap (or_numbered c.args.name.now) (c.in-Some.ensures ∙ first_named c.args.columns.now c.args.name.now)

pub returns-in-None : goal.returns-in-None
returns-in-None c = c.numbered_place.ensures ∙ ap (or_numbered c.args.name.now) (c.in-None.ensures ∙ first_named c.args.columns.now c.args.name.now)
