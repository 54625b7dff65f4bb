use Rattle.vortex_value.proofs.ZeroLaws.{default_exists}
use Rattle.vortex_value.proofs.laws.default_exists.Goals as goal

pub returns : goal.returns
returns c = default_exists
