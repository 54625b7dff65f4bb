-- The words are read as they stand, or with names in another case, or are refused.
use Rattle.std.proofs.Common.{arith, rules}
use Rattle.std.proofs.lemmas.Grind.{common_steps}
use Rattle.filter_sql.specs.ColumnNames.{column_trees}
use Rattle.filter_sql.specs.Parsing.{RefusesSqlWithin}
use Rattle.filter_sql.specs.declared.error.ParseError.TheVariants.{NoColumn}
use Rattle.vortex_filter.specs.Formula.{formula}
use Rattle.filter_sql.proofs.OwnNames.{all_by_case, read_exactly, refused_exactly}
use Rattle.filter_sql.proofs.own_names.filter_of_words.Goals as goal

pub returns-in-Ok-clause-read : goal.returns-in-Ok-clause-read
returns-in-Ok-clause-read c = read_exactly c.texts_say_one_filter.ensures.one c.args.depth (column_trees c.args.columns.now) c.args.words.now (formula c.in-Ok.filter) c.in-Ok.ensures.read

pub returns-in-Err-NoColumn-clause-read : goal.returns-in-Err-NoColumn-clause-read
returns-in-Err-NoColumn-clause-read c =
    let refuses : RefusesSqlWithin c.args.depth (column_trees c.args.columns.now) c.args.words.now (NoColumn c.in-Err-NoColumn.offset) = first_of (search rules, grind (arith, common_steps)) in
    all_by_case c.texts_say_one_filter.ensures.none c.args.depth (column_trees c.args.columns.now) c.args.words.now c.in-Err-NoColumn.offset c.filter_by_case.result refuses c.filter_by_case.ensures.read

pub returns-in-Err : goal.returns-in-Err
returns-in-Err c = record { read = tt; refused = refused_exactly c.texts_say_one_filter.ensures.none c.args.depth (column_trees c.args.columns.now) c.args.words.now c.in-Err.error c.in-Err.ensures.refused }
