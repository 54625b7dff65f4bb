-- What a search finds that skips zones and takes whole ones.
use Rattle.std.specs.Prelude.{◌≡◌, List, [], if◌then◌else◌}
use Rattle.std.specs.List.{All, filter, flat_map}
use Rattle.vortex_cells.specs.Cells.{Cell}
use Rattle.vortex_statistics.specs.Statistics.{Known}
use Rattle.vortex_filter.specs.Formula.{Formula, is_match}
use Rattle.filter_pruning.specs.OutcomeSets.{is_only_true}
use Rattle.filter_pruning.specs.Outcomes.{outcomes}
use Rattle.filter_pruning.specs.Pruning.{AreStatisticsOf}

-- rows, and what is known of their columns
pub record Zone : Type 0 where
  pub statistics : List Known
  pub rows : List (List Cell)

-- the statistics of the zone are right
abbrev pub IsRightZone : Zone → Type 0
IsRightZone z = AreStatisticsOf z.statistics z.rows

-- the rows that match, in order
abbrev pub matching : Formula → List (List Cell) → List (List Cell)
matching f rows = filter (is_match f) rows

-- what a search takes of a zone: nothing if no row may match, each row if each must, and else those that it sees to match
abbrev pub taken_of : Formula → Zone → List (List Cell)
taken_of f z =
    if (outcomes f z.statistics).may_be_true
    then (if is_only_true (outcomes f z.statistics) then z.rows else matching f z.rows)
    else []

-- of a zone with right statistics, it takes the rows that match
abbrev pub ZonesAreSearched : Type 0
ZonesAreSearched = (f : Formula) (z : Zone) → IsRightZone z → taken_of f z ≡ matching f z.rows

-- of all zones together, it takes the rows that match, in order
abbrev pub SearchesFindAll : Type 0
SearchesFindAll = (f : Formula) (zones : List Zone) → All IsRightZone zones
    → flat_map (taken_of f) zones ≡ matching f (flat_map (λ z. z.rows) zones)
