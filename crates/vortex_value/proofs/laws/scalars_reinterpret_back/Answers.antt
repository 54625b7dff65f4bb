use Rattle.vortex_value.proofs.ReinterpretLaws.{reinterpret_back}
use Rattle.vortex_value.proofs.laws.scalars_reinterpret_back.Goals as goal

pub returns : goal.returns
returns c = reinterpret_back c.reinterprets_back.ensures
