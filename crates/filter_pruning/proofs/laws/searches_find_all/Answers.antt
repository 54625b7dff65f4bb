use Rattle.vortex_cells.proofs.CellLaws.{from_below}
use Rattle.filter_pruning.proofs.Searches.{zone_searched, zones_searched}
use Rattle.filter_pruning.proofs.laws.searches_find_all.Goals as goal

pub returns-clause-zone : goal.returns-clause-zone
returns-clause-zone c = zone_searched (from_below c.order_is_reversed.ensures.contents c.order_is_transitive.ensures.contents)

pub returns-clause-zones : goal.returns-clause-zones
returns-clause-zones c = zones_searched (from_below c.order_is_reversed.ensures.contents c.order_is_transitive.ensures.contents)
