use Rattle.arrow_columns.proofs.FormatSteps.{logical_values}
use Rattle.arrow_columns.proofs.checking.logical_rows.Goals as goal

pub returns-in-None-clause-values : goal.returns-in-None-clause-values
returns-in-None-clause-values c =
    logical_values c.args.format c.args.column c.in_ok-rows.rows c.in-Some.logical c.in_ok-rows.ensures.rows.1 c.in-Some.ensures.some c.in-None.ensures
