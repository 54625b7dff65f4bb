use Rattle.vortex_value.proofs.ValidityLaws.{valid_exactly_without_breach}
use Rattle.vortex_value.proofs.laws.valid_exactly_without_breach.Goals as goal

pub returns : goal.returns
returns c = valid_exactly_without_breach
