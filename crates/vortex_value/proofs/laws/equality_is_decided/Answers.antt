use Rattle.vortex_value.specs.Lemmas.EqualityLaws.{equality_is_decided}
use Rattle.vortex_value.proofs.laws.equality_is_decided.Goals as goal

pub returns : goal.returns
returns c = equality_is_decided
