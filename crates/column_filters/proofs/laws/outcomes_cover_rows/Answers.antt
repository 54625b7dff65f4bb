-- The law, by the laws of the order of contents.
use Rattle.vortex_cells.proofs.CellLaws.{from_below}
use Rattle.column_filters.proofs.Covering.{covers}
use Rattle.column_filters.proofs.laws.outcomes_cover_rows.Goals as goal

pub returns : goal.returns
returns c = covers (from_below c.order_is_reversed.ensures.contents c.order_is_transitive.ensures.contents)
