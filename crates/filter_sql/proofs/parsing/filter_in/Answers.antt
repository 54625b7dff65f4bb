-- A filter if the text ends with its tokens, and else the first mistake.
use Rattle.std.proofs.Common.{◌≡◌, Some}
use Rattle.vortex_filter.specs.FilterLiterals.{AreValid, literals_of}
use Rattle.vortex_filter.specs.Formula.{formula}
use Rattle.filter_sql.specs.ColumnNames.{column_trees}
use Rattle.filter_sql.specs.Mistakes.{filter_mistake}
use Rattle.filter_sql.specs.Reading.{filter_at}
use Rattle.filter_sql.specs.Texts.{items}
use Rattle.filter_sql.specs.Tokens.{trees}
use Rattle.filter_sql.proofs.ParseSteps.{mistake_refused, whole_given, whole_has, whole_placed, whole_refused}
use Rattle.filter_sql.proofs.parsing.filter_in.Goals as goal

pub returns-in-Ok-clause-whole : goal.returns-in-Ok-clause-whole
returns-in-Ok-clause-whole c = whole_given c.args.ending c.in-Ok.filter c.ended.result c.ended.ensures

pub returns-in-Ok-clause-given : goal.returns-in-Ok-clause-given
returns-in-Ok-clause-given c =
    whole_has (λ filter. filter_at (column_trees c.args.columns.now) c.args.depth (trees c.args.tokens.now) ≡ Some (formula filter)) c.args.ending.place c.args.ending.fault c.in-Ok.filter c.ended.result c.ended.ensures c.in-Ok.ensures.read

pub returns-in-Ok-clause-valid : goal.returns-in-Ok-clause-valid
returns-in-Ok-clause-valid c = whole_has (λ filter. AreValid (literals_of filter)) c.args.ending.place c.args.ending.fault c.in-Ok.filter c.ended.result c.ended.ensures c.in-Ok.ensures.valid

pub returns-in-Ok-clause-refused : goal.returns-in-Ok-clause-refused
returns-in-Ok-clause-refused c = whole_refused (column_trees c.args.columns.now) c.args.depth c.args.tokens.now c.args.ending c.in-Ok.filter c.ended.result c.in-Ok.ensures.read c.ended.ensures

pub returns-in-Ok-clause-placed : goal.returns-in-Ok-clause-placed
returns-in-Ok-clause-placed c = whole_placed c.args.ending.place c.args.ending.fault c.in-Ok.filter c.ended.result c.ended.ensures

pub returns-in-Err-clause-refused : goal.returns-in-Err-clause-refused
returns-in-Err-clause-refused c =
    mistake_refused (items c.args.tokens.now) c.args.ending (filter_at (column_trees c.args.columns.now) c.args.depth (trees c.args.tokens.now)) (filter_mistake (column_trees c.args.columns.now) c.args.depth (trees c.args.tokens.now)) c.in-Err.fault c.placed.result c.in-Err.ensures.read c.placed.ensures.error
