use Rattle.vortex_value.proofs.CastLaws.{there_and_back}
use Rattle.vortex_value.proofs.laws.there_and_back.Goals as goal

pub returns : goal.returns
returns c = there_and_back
