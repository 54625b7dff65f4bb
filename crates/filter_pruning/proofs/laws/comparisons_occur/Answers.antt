use Rattle.vortex_cells.proofs.CellLaws.{from_below}
use Rattle.filter_pruning.proofs.Occurrence.{occurs}
use Rattle.filter_pruning.proofs.laws.comparisons_occur.Goals as goal

pub returns : goal.returns
returns c = occurs (from_below c.order_is_reversed.ensures.contents c.order_is_transitive.ensures.contents)
