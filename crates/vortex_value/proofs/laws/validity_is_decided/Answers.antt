use Rattle.vortex_value.proofs.ValidityLaws.{validity_is_decided}
use Rattle.vortex_value.proofs.laws.validity_is_decided.Goals as goal

pub returns : goal.returns
returns c = validity_is_decided
