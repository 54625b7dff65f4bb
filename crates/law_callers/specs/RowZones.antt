-- Rows with their statistics, as a zone.
use Rattle.std.specs.Prelude.{ℕ, List, map}
use Rattle.vortex_cells.specs.Cells.{Cell, cell_of}
use Rattle.vortex_statistics.specs.Statistics.{known}
use Rattle.filter_pruning.specs.Pruning.{column}
use Rattle.filter_pruning.specs.Searching.{Zone}
use Rattle.law_callers.specs.declared.filter_laws.RowZone.{RowZone}

-- what contracts see of a zone
abbrev pub zone_of : RowZone → Zone
zone_of p = record { statistics = map known p.statistics.items; rows = map (λ row. map cell_of row.items) p.rows.items }

-- the cells of a column of the zone
abbrev pub cells_in : Zone → ℕ → List Cell
cells_in z k = column k z.rows
