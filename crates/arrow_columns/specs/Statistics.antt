-- What the statistics of some cells say.
use Rattle.std.specs.Prelude.{◌≡◌, ◌≢◌, ℕ, ℤ, ◌≤ℤ◌, Bool, not, true, false, List, slice_get, Option, Some, MatchOption, unwrap_or}
use Rattle.std.specs.Cmp.Lexicographic.{slice_cmp}
use Rattle.std.specs.List.{All, Contains, count_by}
use Rattle.std.specs.Option.{IfSome, IsNone, is_none}
use Rattle.std.specs.Ordering.{nat_cmp}
use Rattle.std.specs.declared.cmp.Ordering.TheVariants.{Greater}
use Rattle.arrow_columns.specs.declared.statistics.BooleanStatistics.{BooleanStatistics}
use Rattle.arrow_columns.specs.declared.statistics.ByteStatistics.{ByteStatistics}
use Rattle.arrow_columns.specs.declared.statistics.IntegerStatistics.{IntegerStatistics}

-- a value is among the cells, and none of theirs is below it
abbrev pub IsLeastOf : List (Option ℤ) → ℤ → Type 0
IsLeastOf cells least = Contains cells (Some least) × All (λ cell. IfSome cell (λ x. least ≤ℤ x)) cells

-- a value is among the cells, and none of theirs is above it
abbrev pub IsGreatestOf : List (Option ℤ) → ℤ → Type 0
IsGreatestOf cells greatest = Contains cells (Some greatest) × All (λ cell. IfSome cell (λ x. x ≤ℤ greatest)) cells

-- so many cells are null, and the least and the greatest value are these; none exactly where all cells are null
pub record AreStatisticsOf (cells : List (Option ℤ)) (s : IntegerStatistics) : Type 0 where
  pub nulls : s.null_count ≡ count_by is_none cells
  pub extremes : MatchOption s.extremes (All IsNone cells) (λ e. IsLeastOf cells e.least × IsGreatestOf cells e.greatest)

abbrev pub is_true_cell : Option Bool → Bool
is_true_cell cell = unwrap_or cell false

abbrev pub is_false_cell : Option Bool → Bool
is_false_cell cell = not (unwrap_or cell true)

-- so many cells are null, false and true
pub record AreBooleanStatisticsOf (cells : List (Option Bool)) (s : BooleanStatistics) : Type 0 where
  pub nulls : s.null_count ≡ count_by is_none cells
  pub falses : s.false_count ≡ count_by is_false_cell cells
  pub trues : s.true_count ≡ count_by is_true_cell cells

-- x is not above y, byte by byte
abbrev pub NotAbove : List ℕ → List ℕ → Type 0
NotAbove x y = slice_cmp nat_cmp x y ≢ Greater

-- the cell of this row has a value, and none of the cells is below it
abbrev pub IsLeastAt : List (Option (List ℕ)) → ℕ → Type 0
IsLeastAt cells row = (x : List ℕ) × (slice_get cells row ≡ Some (Some x)) × All (λ cell. IfSome cell (λ y. NotAbove x y)) cells

-- the cell of this row has a value, and none of the cells is above it
abbrev pub IsGreatestAt : List (Option (List ℕ)) → ℕ → Type 0
IsGreatestAt cells row = (x : List ℕ) × (slice_get cells row ≡ Some (Some x)) × All (λ cell. IfSome cell (λ y. NotAbove y x)) cells

-- so many cells are null, and the least and the greatest value stand there; nowhere exactly where all cells are null
pub record AreByteStatisticsOf (cells : List (Option (List ℕ))) (s : ByteStatistics) : Type 0 where
  pub nulls : s.null_count ≡ count_by is_none cells
  pub extremes : MatchOption s.extremes (All IsNone cells) (λ e. IsLeastAt cells e.least × IsGreatestAt cells e.greatest)
