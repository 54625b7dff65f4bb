use Rattle.vortex_row.proofs.KeyLaws.{values_have_no_typed}
use Rattle.vortex_row.proofs.laws.values_have_no_typed.Goals as goal

pub returns : goal.returns
returns c = values_have_no_typed
