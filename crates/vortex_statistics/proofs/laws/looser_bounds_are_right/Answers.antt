use Rattle.vortex_statistics.proofs.LooseLaws.{loosened}
use Rattle.vortex_statistics.proofs.laws.looser_bounds_are_right.Goals as goal

pub returns : goal.returns
returns c = loosened c.order_is_reversed.ensures.contents c.order_is_transitive.ensures.contents
