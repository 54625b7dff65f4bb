-- A column with a kind and a name has no fault.
use Rattle.vortex_c.proofs.SqlSteps.{no-fault}
use Rattle.vortex_c.proofs.sql.named_column.Goals as goal

pub returns-in_err-kind-clause-refused : goal.returns-in_err-kind-clause-refused
returns-in_err-kind-clause-refused c = absurd (no-fault c.args.place c.args.column _ c.requires c.in_err-kind.ensures.refused)
