use Rattle.vortex_value.proofs.ZeroLaws.{zero_is_zero}
use Rattle.vortex_value.proofs.laws.zero_is_zero.Goals as goal

pub returns : goal.returns
returns c = zero_is_zero
