-- The statistics of two pieces of a column together, one after the other.
use Rattle.std.specs.Prelude.{◌+◌, ◌^◌, ℕ, Bool, true, false, ◌||◌, nat_lt, sum_by, List, [], ◌∷◌, ◌++◌, Option, Some, None, if◌then◌else◌}
use Rattle.std.specs.Option.{option_or}
use Rattle.std.specs.declared.cmp.Ordering.{Ordering}
use Rattle.std.specs.declared.cmp.Ordering.TheVariants.{Less, Equal, Greater}
use Rattle.vortex_cells.specs.Cells.{Cell, cell_order, order_from_above}
use Rattle.vortex_statistics.specs.Statistics.{AreComplete, AreRight, Known, KnownBound, may_be_value}
use Rattle.vortex_statistics.specs.declared.column_statistics.ColumnStatistics.{ColumnStatistics}

-- ---- no piece

-- what is known of no cells
abbrev pub nothing : Known
nothing = record { row_count = 0; null_count = Some 0; lower = None; upper = None }

-- ---- bounds

-- the first of two bounds that are equal, exact if one of them is
abbrev pub joined : Option KnownBound → Option KnownBound → Option KnownBound
joined (Some a) (Some b) = Some (record { value = a.value; is_exact = a.is_exact || b.is_exact })
joined _ _ = None

-- the outer one of two bounds in this order; none if they do not compare
abbrev pub outer_by : Option Ordering → Option KnownBound → Option KnownBound → Option KnownBound
outer_by None a b = None
outer_by (Some Less) a b = a
outer_by (Some Equal) a b = joined a b
outer_by (Some Greater) a b = b

-- how two bounds compare; `None` if one is not there
abbrev pub bound_order : (Cell → Cell → Option Ordering) → Option KnownBound → Option KnownBound → Option Ordering
bound_order cmp (Some a) (Some b) = cmp a.value b.value
bound_order cmp _ _ = None

-- a bound of both pieces, by how their bounds compare. A piece that has no values needs none: then it is the bound of the
-- other one. Of two pieces without values it is the first one that there is.
abbrev pub bound_of_both : Option Ordering → Bool → Bool → Option KnownBound → Option KnownBound → Option KnownBound
bound_of_both o true true a b = outer_by o a b
bound_of_both o true false a b = a
bound_of_both o false true a b = b
bound_of_both o false false a b = option_or a b

-- ---- counts

-- the sum, if both are known and it fits 64 bits
abbrev pub sum_of : Option ℕ → Option ℕ → Option ℕ
sum_of (Some m) (Some n) = if nat_lt (m + n) (2 ^ 64) then Some (m + n) else None
sum_of _ _ = None

-- ---- both pieces

-- what is known of both pieces
abbrev pub merged : Known → Known → Known
merged s t = record {
  row_count = s.row_count + t.row_count;
  null_count = sum_of s.null_count t.null_count;
  lower = bound_of_both (bound_order cell_order s.lower t.lower) (may_be_value s) (may_be_value t) s.lower t.lower;
  upper = bound_of_both (bound_order order_from_above s.upper t.upper) (may_be_value s) (may_be_value t) s.upper t.upper;
}

-- u is right for the cells of two pieces, one after the other, whenever s and t are right for each
abbrev pub AreRightTogether : Known → Known → Known → Type 0
AreRightTogether s t u = (cells others : List Cell) → AreRight s cells → AreRight t others → AreRight u (cells ++ others)

-- u is complete for the cells of two pieces, one after the other, whenever s and t are complete for each
abbrev pub AreCompleteTogether : Known → Known → Known → Type 0
AreCompleteTogether s t u = (cells others : List Cell) → AreComplete s cells → AreComplete t others → AreComplete u (cells ++ others)

-- ---- many pieces

-- pieces that are merged two by two, in any grouping
pub data Grouping : Type 0 where
  no_piece : Grouping
  piece : Known → List Cell → Grouping
  both : Grouping → Grouping → Grouping

-- the cells of all pieces, in order
abbrev pub cells_of : Grouping → List Cell
cells_of no_piece = []
cells_of (piece s cells) = cells
cells_of (both p q) = cells_of p ++ cells_of q

-- the statistics of all pieces, merged in this grouping
abbrev pub statistics_of : Grouping → Known
statistics_of no_piece = nothing
statistics_of (piece s cells) = s
statistics_of (both p q) = merged (statistics_of p) (statistics_of q)

-- the statistics of each piece are right for its cells
abbrev pub EachIsRight : Grouping → Type 0
EachIsRight no_piece = Unit {0}
EachIsRight (piece s cells) = AreRight s cells
EachIsRight (both p q) = EachIsRight p × EachIsRight q

-- whatever the grouping, the merged statistics are right for the cells of all pieces
abbrev pub AnyGroupingIsRight : Type 0
AnyGroupingIsRight = (p : Grouping) → EachIsRight p → AreRight (statistics_of p) (cells_of p)

-- how many rows all pieces have
abbrev pub rows_of : List ColumnStatistics → ℕ
rows_of = sum_by (λ s. s.row_count)

-- the cells of all pieces, one after the other
abbrev pub joined_cells : List (List Cell) → List Cell
joined_cells [] = []
joined_cells (cells ∷ pieces) = cells ++ joined_cells pieces

-- each of the statistics is right for the cells of its piece
abbrev pub AreEachRight : List Known → List (List Cell) → Type 0
AreEachRight [] [] = Unit {0}
AreEachRight (s ∷ ss) (cells ∷ pieces) = AreRight s cells × AreEachRight ss pieces
AreEachRight _ _ = ⊥

-- t is right for the cells of all pieces, one after the other, whenever each of the statistics is right for its piece
abbrev pub AreRightForAll : List Known → Known → Type 0
AreRightForAll ss t = (pieces : List (List Cell)) → AreEachRight ss pieces → AreRight t (joined_cells pieces)
