-- When statistics are right for the cells of a column, and when they say all that they can.
use Rattle.std.specs.Prelude.{◌≡◌, ℕ, Bool, true, nat_lt, List, length, count_by, Option, Some, None, IfSome, IsSome, is_some, option_map}
use Rattle.std.specs.declared.cmp.Ordering.{Ordering}
use Rattle.std.specs.declared.cmp.Ordering.TheVariants.{Equal}
use Rattle.vortex_value.specs.Values.Scalars.{IsValid}
use Rattle.vortex_cells.specs.Cells.{AllCompare, Cell, HasValue, IsUpTo, cell_of, cell_order, is_null_cell, order_from_above}
use Rattle.vortex_statistics.specs.declared.column_statistics.Bound.{Bound}
use Rattle.vortex_statistics.specs.declared.column_statistics.ColumnStatistics.{ColumnStatistics}

-- ---- what contracts see of statistics

-- a bound: a cell, and whether some value is equal to it
pub record KnownBound : Type 0 where
  pub value : Cell
  pub is_exact : Bool

-- what statistics say of a column
pub record Known : Type 0 where
  pub row_count : ℕ
  pub null_count : Option ℕ
  pub lower : Option KnownBound
  pub upper : Option KnownBound

abbrev pub known_bound : Bound → KnownBound
known_bound b = record { value = cell_of b.value; is_exact = b.is_exact }

abbrev pub known : ColumnStatistics → Known
known s = record {
  row_count = s.row_count;
  null_count = s.null_count;
  lower = option_map known_bound s.lower;
  upper = option_map known_bound s.upper;
}

-- the statistics of no rows
abbrev pub empty_statistics : ColumnStatistics
empty_statistics = record { row_count = 0; null_count = Some 0; lower = None; upper = None }

-- ---- valid bounds

-- the bound, if there is one, is a valid scalar
abbrev pub IsValidBound : Option Bound → Type 0
IsValidBound b = IfSome b (λ b. IsValid b.value)

-- so are both: each has a raw value of its type, and a number that of its integer type
pub record HasValidBounds (s : ColumnStatistics) : Type 0 where
  pub lower : IsValidBound s.lower
  pub upper : IsValidBound s.upper

-- ---- right statistics

-- each value compares with the bound and is not before it, in this order; and some value is equal to it, if it is exact
pub record IsBound (cmp : Cell → Cell → Option Ordering) (b : KnownBound) (cells : List Cell) : Type 0 where
  pub bounds : (x : Cell) → HasValue cells x → IsUpTo cmp b.value x
  pub exact : b.is_exact ≡ true → (x : Cell) × HasValue cells x × (cmp b.value x ≡ Some Equal)

-- no value is below the bound
abbrev pub IsLowerBound : KnownBound → List Cell → Type 0
IsLowerBound = IsBound cell_order

-- no value is above the bound
abbrev pub IsUpperBound : KnownBound → List Cell → Type 0
IsUpperBound = IsBound order_from_above

-- what the statistics say is so of these cells
pub record AreRight (s : Known) (cells : List Cell) : Type 0 where
  pub rows : s.row_count ≡ length cells
  pub nulls : IfSome s.null_count (λ n. n ≡ count_by is_null_cell cells)
  pub lower : IfSome s.lower (λ b. IsLowerBound b cells)
  pub upper : IfSome s.upper (λ b. IsUpperBound b cells)

-- ---- complete statistics

-- if there is a bound, some value is equal to it
pub record HasExactBounds (s : Known) : Type 0 where
  pub lower : IfSome s.lower (λ b. b.is_exact ≡ true)
  pub upper : IfSome s.upper (λ b. b.is_exact ≡ true)

-- both bounds are there, if the cells have a value, and their values compare
abbrev pub IsBoundedFor : List Cell → Known → Type 0
IsBoundedFor cells s = AllCompare cells → (x : Cell) → HasValue cells x → (is_some s.lower ≡ true) × (is_some s.upper ≡ true)

-- the statistics are right, the nulls counted, the bounds exact, and there if the values compare
pub record AreComplete (s : Known) (cells : List Cell) : Type 0 where
  pub right : AreRight s cells
  pub counted : IsSome s.null_count
  pub exact : HasExactBounds s
  pub bounded : IsBoundedFor cells s

-- ---- what statistics leave open

abbrev pub some_null : ℕ → Option ℕ → Bool
some_null rows None = nat_lt 0 rows
some_null rows (Some nulls) = nat_lt 0 nulls

abbrev pub some_value : ℕ → Option ℕ → Bool
some_value rows None = nat_lt 0 rows
some_value rows (Some nulls) = nat_lt nulls rows

-- whether a cell may be null
abbrev pub may_be_null : Known → Bool
may_be_null s = some_null s.row_count s.null_count

-- whether a cell may have a value
abbrev pub may_be_value : Known → Bool
may_be_value s = some_value s.row_count s.null_count

-- no cell is null, whatever cells the statistics are right for
abbrev pub LeaveNoNull : Known → Type 0
LeaveNoNull s = (cells : List Cell) → AreRight s cells → count_by is_null_cell cells ≡ 0

-- no cell has a value, whatever cells the statistics are right for
abbrev pub LeaveNoValue : Known → Type 0
LeaveNoValue s = (cells : List Cell) → AreRight s cells → (x : Cell) → ¬ (HasValue cells x)
