-- The statistics of cells and one cell more.
use Rattle.std.specs.Prelude.{◌≡◌, ◌⊎◌, ◌+◌, ◌<◌, ◌≤◌, ◌^◌, Bool, true, false, not, ◌&&◌, ◌||◌, List, [], ◌∷◌, ◌++◌, Contains, Option, Some, None, is_some, if◌then◌else◌}
use Rattle.std.specs.Ordering.{is_gt, is_some_and}
use Rattle.std.specs.declared.cmp.Ordering.{Ordering}
use Rattle.std.specs.declared.cmp.Ordering.TheVariants.{Less, Equal, Greater}
use Rattle.vortex_dtype.specs.TypeTree.{IsFlat, TypeTree}
use Rattle.vortex_value.specs.Validity.{Valid}
use Rattle.vortex_value.specs.Values.RawTree.{RawTree}
use Rattle.vortex_value.specs.Values.Refs.{ref_raw, ref_type}
use Rattle.vortex_value.specs.Values.Scalars.{scalar_raw, scalar_type}
use Rattle.vortex_value.specs.declared.refs.ScalarRef.{ScalarRef}
use Rattle.vortex_value.specs.declared.scalars.Scalar.{Scalar}
use Rattle.vortex_cells.specs.Cells.{Cell, cell_of, cell_of_ref, cell_order, is_null_cell, order_from_above}
use Rattle.vortex_statistics.specs.Merging.{sum_of}
use Rattle.vortex_statistics.specs.Statistics.{AreComplete, AreRight, Known, KnownBound, may_be_value}
use Rattle.vortex_statistics.specs.declared.error.StatisticsError.{StatisticsError}
use Rattle.vortex_statistics.specs.declared.error.StatisticsError.TheVariants.{OutOfMemory, TooManyRows}

-- the cell as a bound of itself; none if it has no order with itself, as a variant
abbrev pub bound_at : Cell → Option KnownBound
bound_at x = if is_some (cell_order x x) then Some (record { value = x; is_exact = true }) else None

-- the bound after one cell more, by how the bound compares with it
abbrev pub bound_with : Option Ordering → KnownBound → Cell → Option KnownBound
bound_with None b x = None
bound_with (Some Less) b x = Some b
bound_with (Some Equal) b x = Some (record { value = b.value; is_exact = true })
bound_with (Some Greater) b x = bound_at x

-- the bound of cells that may have values, after one cell more
abbrev pub bound_after : (Cell → Cell → Option Ordering) → Option KnownBound → Cell → Option KnownBound
bound_after cmp None x = None
bound_after cmp (Some b) x = bound_with (cmp b.value x) b x

-- whether the cell is past the bound, if there is one, and becomes the bound in its place
abbrev pub is_new_bound : (Cell → Cell → Option Ordering) → Option KnownBound → Cell → Bool
is_new_bound cmp None x = false
is_new_bound cmp (Some b) x = is_some_and is_gt (cmp b.value x) && is_some (cell_order x x)

abbrev pub is_exact_bound : Option KnownBound → Bool
is_exact_bound None = false
is_exact_bound (Some b) = b.is_exact

-- whether the cell is a new lower bound, below some value: then it is not above the upper bound
abbrev pub is_below_some : Known → Cell → Bool
is_below_some s x = is_exact_bound s.lower && is_new_bound cell_order s.lower x

-- what is known of the cells and one value more
abbrev pub with_value : Known → Cell → Known
with_value s x = record {
  row_count = s.row_count + 1;
  null_count = s.null_count;
  lower = if may_be_value s then bound_after cell_order s.lower x else bound_at x;
  upper = if may_be_value s then (if is_below_some s x then s.upper else bound_after order_from_above s.upper x) else bound_at x;
}

-- what is known of the cells and one null more
abbrev pub with_null : Known → Known
with_null s = record {
  row_count = s.row_count + 1;
  null_count = sum_of s.null_count (Some 1);
  lower = s.lower;
  upper = s.upper;
}

-- what is known of the cells and this one
abbrev pub observed : Known → Cell → Known
observed s x = if is_null_cell x then with_null s else with_value s x

-- whether the cell becomes a bound: in the place of one, or as the first value
abbrev pub becomes_bound : Known → Cell → Bool
becomes_bound s x = not (is_null_cell x)
    && (if may_be_value s then (is_new_bound cell_order s.lower x || is_new_bound order_from_above s.upper x) else is_some (cell_order x x))

-- a valid value of a type whose values take no memory, as integers
abbrev pub IsFlatValue : TypeTree → RawTree → Type 0
IsFlatValue t v = IsFlat t × Valid t v

-- why the value is not counted: its row is one too many, or there is no memory for the bound that it becomes, which takes
-- some
abbrev pub RefusesCell : Known → ScalarRef → StatisticsError → Type 0
RefusesCell s x e = ((e ≡ TooManyRows) × (2 ^ 64 ≤ s.row_count + 1))
    ⊎ ((e ≡ OutOfMemory) × (s.row_count + 1 < 2 ^ 64) × (becomes_bound s (cell_of_ref x) ≡ true) × (¬ (IsFlatValue (ref_type x) (ref_raw x))))

-- the scalar is no null, and a copy of it may take memory
abbrev pub MayTakeMemory : Scalar → Type 0
MayTakeMemory x = (is_null_cell (cell_of x) ≡ false) × (¬ (IsFlatValue (scalar_type x) (scalar_raw x)))

-- one of the scalars may
abbrev pub SomeMayTakeMemory : List Scalar → Type 0
SomeMayTakeMemory xs = (x : Scalar) × Contains xs x × MayTakeMemory x

-- t is right for the cells and x, whenever s is right for the cells
abbrev pub IsRightWith : Known → Cell → Known → Type 0
IsRightWith s x t = (cells : List Cell) → AreRight s cells → AreRight t (cells ++ x ∷ [])

-- t is complete for the cells and x, whenever s is complete for the cells
abbrev pub IsCompleteWith : Known → Cell → Known → Type 0
IsCompleteWith s x t = (cells : List Cell) → AreComplete s cells → AreComplete t (cells ++ x ∷ [])
