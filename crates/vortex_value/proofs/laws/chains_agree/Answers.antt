use Rattle.vortex_value.proofs.CastLaws.{chains_agree}
use Rattle.vortex_value.proofs.laws.chains_agree.Goals as goal

pub returns : goal.returns
returns c = chains_agree
