-- All rows match or none, by the law.
use Rattle.vortex_filter.specs.declared.truth.Truth.TheVariants.{False, True, Unknown}
use Rattle.constant_arrays.specs.Words.{formula}
use Rattle.law_callers.proofs.ConstantRows.{matches_alike}
use Rattle.law_callers.proofs.constants.count_matches.Goals as goal

pub returns-in-True : goal.returns-in-True
returns-in-True c =
    matches_alike c.args.array.now c.args.column.now (formula c.args.filter.now) True (c.constants_equal_columns.ensures c.args.array.now c.args.column.now c.requires) c.in-True.ensures.value

pub returns-in-False : goal.returns-in-False
returns-in-False c =
    matches_alike c.args.array.now c.args.column.now (formula c.args.filter.now) False (c.constants_equal_columns.ensures c.args.array.now c.args.column.now c.requires) c.in-False.ensures.value

pub returns-in-Unknown : goal.returns-in-Unknown
returns-in-Unknown c =
    matches_alike c.args.array.now c.args.column.now (formula c.args.filter.now) Unknown (c.constants_equal_columns.ensures c.args.array.now c.args.column.now c.requires) c.in-Unknown.ensures.value
