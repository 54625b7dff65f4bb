use Rattle.vortex_cells.proofs.CellLaws.{from_below}
use Rattle.filter_pruning.proofs.Exactness.{exact}
use Rattle.filter_pruning.proofs.laws.comparisons_are_exact.Goals as goal

pub returns : goal.returns
returns c = exact (from_below c.order_is_reversed.ensures.contents c.order_is_transitive.ensures.contents)
