use Rattle.vortex_value.specs.Lemmas.EqualityLaws.{equality_agrees_without_typed}
use Rattle.vortex_value.proofs.laws.equality_agrees_without_typed.Goals as goal

pub returns : goal.returns
returns c = equality_agrees_without_typed
