use Rattle.vortex_cells.proofs.CellLaws.{from_below}
use Rattle.filter_pruning.proofs.PrefixExact.{prefixes_exact}
use Rattle.filter_pruning.proofs.laws.prefixes_are_exact.Goals as goal

pub returns : goal.returns
returns c = prefixes_exact (from_below c.order_is_reversed.ensures.contents c.order_is_transitive.ensures.contents)
