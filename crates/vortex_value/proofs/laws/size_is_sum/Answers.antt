use Rattle.vortex_value.proofs.SizeLaws.{size_is_sum}
use Rattle.vortex_value.proofs.laws.size_is_sum.Goals as goal

pub returns : goal.returns
returns c = size_is_sum
