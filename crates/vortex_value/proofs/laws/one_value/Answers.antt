use Rattle.vortex_value.proofs.Uniqueness.{one_value}
use Rattle.vortex_value.proofs.laws.one_value.Goals as goal

pub returns : goal.returns
returns c = one_value
