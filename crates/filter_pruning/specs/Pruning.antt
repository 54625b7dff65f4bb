-- What the outcomes of a filter promise of the rows of a zone.
use Rattle.std.specs.Prelude.{◌≡◌, ◌<◌, ◌⊎◌, ℕ, IsTrue, List, map, slice_get, Contains, None, Some}
use Rattle.vortex_cells.specs.Cells.{Cell}
use Rattle.vortex_statistics.specs.Statistics.{AreRight, Known}
use Rattle.filter_pruning.specs.declared.outcomes.Outcomes.{Outcomes}
use Rattle.vortex_filter.specs.declared.truth.Truth.TheVariants.{True}
use Rattle.vortex_filter.specs.Formula.{Formula, cell_at, truth}
use Rattle.filter_pruning.specs.OutcomeSets.{allows}

-- the cells of column k
abbrev pub column : ℕ → List (List Cell) → List Cell
column k rows = map (λ row. cell_at row k) rows

-- the statistics leave all open: there may be rows, and any cells in them
pub record AreOpen (s : Known) : Type 0 where
  pub rows : 0 < s.row_count
  pub nulls : s.null_count ≡ None
  pub lower : s.lower ≡ None
  pub upper : s.upper ≡ None

-- the statistics of each column, as far as there are any, are right for the rows, or leave all open
abbrev pub AreStatisticsOf : List Known → List (List Cell) → Type 0
AreStatisticsOf statistics rows = (k : ℕ) (s : Known) → slice_get statistics k ≡ Some s → AreOpen s ⊎ AreRight s (column k rows)

-- P holds of each row of each zone for which the statistics are right
abbrev pub OnEachRow : List Known → (List Cell → Type 0) → Type 0
OnEachRow statistics P = (rows : List (List Cell)) → AreStatisticsOf statistics rows → (row : List Cell) → Contains rows row → P row

-- on each such row the formula is one of the outcomes
abbrev pub Covers : Formula → List Known → Outcomes → Type 0
Covers f statistics o = OnEachRow statistics (λ row. IsTrue (allows o (truth f row)))

-- on none of them it is True
abbrev pub MatchesNoRow : Formula → List Known → Type 0
MatchesNoRow f statistics = OnEachRow statistics (λ row. ¬ (truth f row ≡ True))

-- on each of them it is True
abbrev pub MatchesEachRow : Formula → List Known → Type 0
MatchesEachRow f statistics = OnEachRow statistics (λ row. truth f row ≡ True)
