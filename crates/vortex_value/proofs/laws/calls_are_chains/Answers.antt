use Rattle.vortex_value.proofs.CastLaws.{calls_are_chains}
use Rattle.vortex_value.proofs.laws.calls_are_chains.Goals as goal

pub returns : goal.returns
returns c = calls_are_chains
