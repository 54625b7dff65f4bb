use Rattle.vortex_statistics.proofs.MergeLaws.{any_grouping}
use Rattle.vortex_statistics.proofs.laws.any_grouping_is_right.Goals as goal

pub returns : goal.returns
returns c = any_grouping c.order_is_reversed.ensures.contents c.order_is_transitive.ensures.contents
