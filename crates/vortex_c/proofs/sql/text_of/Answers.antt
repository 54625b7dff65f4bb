-- Why the columns or the words are not as they are to be.
use Rattle.vortex_c.proofs.SqlSteps.{unfit-columns}
use Rattle.vortex_c.proofs.sql.text_of.Goals as goal

pub returns-in_err-check_columns-clause-refused : goal.returns-in_err-check_columns-clause-refused
returns-in_err-check_columns-clause-refused c = unfit-columns c.args.words.now c.args.columns.now _ _ c.from_residual.ensures c.in_err-check_columns.ensures.refused
