-- The least and the greatest of some contents.
use Rattle.std.specs.Prelude.{◌≡◌, ◌⊎◌, ℕ, ℤ, Bool, false, List, Contains, slice_get, map, Option, Some, IfSome, MatchOption}
use Rattle.std.specs.List.{All, count_by}
use Rattle.std.specs.Option.{IsNone}
use Rattle.std.specs.declared.cmp.Ordering.{Ordering}
use Rattle.std.specs.declared.cmp.Ordering.TheVariants.{Less, Equal}
use Rattle.arrow_columns.specs.declared.formats.Format.{Format}
use Rattle.arrow_columns.specs.declared.statistics.ByteExtremes.{ByteExtremes}
use Rattle.arrow_columns.specs.declared.statistics.ByteStatistics.{ByteStatistics}
use Rattle.column_cells.specs.Contents.{stored_content}
use Rattle.column_cells.specs.Types.{type_of_format}
use Rattle.vortex_dtype.specs.TypeTree.{TypeTree}
use Rattle.vortex_cells.specs.Cells.{is_null_content}
use Rattle.vortex_statistics.specs.Statistics.{AreComplete, known}
use Rattle.vortex_statistics.specs.declared.column_statistics.Bound.{Bound}
use Rattle.vortex_statistics.specs.declared.column_statistics.ColumnStatistics.{ColumnStatistics}
use Rattle.vortex_value.specs.Order.{order, truth_cmp}
use Rattle.vortex_value.specs.Values.Content.{Content, null}
use Rattle.vortex_value.specs.Values.Scalars.{IsValid, scalar_content, scalar_type}
use Rattle.vortex_value.specs.declared.scalars.Scalar.{Scalar}
use Rattle.column_statistics.specs.Cells.{HasBoundsIn, typed_as}
use Rattle.column_statistics.specs.declared.extremes.Extremes.{Extremes}
use Rattle.column_statistics.specs.declared.extremes.Summary.{Summary}
use Rattle.column_statistics.specs.declared.extremes.Truths.{Truths}

-- the order says Less or Equal
abbrev pub SaysUpTo : Option Ordering → Type 0
SaysUpTo o = (o ≡ Some Less) ⊎ (o ≡ Some Equal)

-- the order of contents from above
abbrev pub order_down : Content → Content → Option Ordering
order_down x y = order y x

-- x is one of the contents, no null, and in this order past none of those that are no nulls
pub record IsExtreme (cmp : Content → Content → Option Ordering) (contents : List Content) (x : Content) : Type 0 where
  pub among : Contains contents x
  pub value : is_null_content x ≡ false
  pub first : (y : Content) → Contains contents y → is_null_content y ≡ false → SaysUpTo (cmp x y)
  pub itself : cmp x x ≡ Some Equal

-- such a scalar of the type
pub record IsExtremeOf (cmp : Content → Content → Option Ordering) (t : TypeTree) (contents : List Content) (x : Scalar) : Type 0 where
  pub typed : scalar_type x ≡ t
  pub valid : IsValid x
  pub extreme : IsExtreme cmp contents (scalar_content x)

-- a least and a greatest of the contents that are no nulls
pub record AreExtremesOf (t : TypeTree) (contents : List Content) (e : Extremes) : Type 0 where
  pub least : IsExtremeOf order t contents e.least
  pub greatest : IsExtremeOf order_down t contents e.greatest

-- so many contents are null, and a least and a greatest of the others are these; none exactly where all are null
pub record AreSummaryOf (t : TypeTree) (contents : List Content) (s : Summary) : Type 0 where
  pub nulls : s.null_count ≡ count_by is_null_content contents
  pub extremes : MatchOption s.extremes (All (λ c. c ≡ null) contents) (AreExtremesOf t contents)

-- the scalar is that of a value of the format, by its number
pub record IsScalarOf (format : Format) (z : ℤ) (x : Scalar) : Type 0 where
  pub typed : scalar_type x ≡ type_of_format format
  pub valid : IsValid x
  pub is : scalar_content x ≡ stored_content format z

-- ---- by rows

-- such a content stands in this row
pub record IsExtremeAt (cmp : Content → Content → Option Ordering) (contents : List Content) (row : ℕ) : Type 0 where
  pub content : Content
  pub stands : slice_get contents row ≡ Some content
  pub extreme : IsExtreme cmp contents content

pub record AreExtremesAt (contents : List Content) (e : ByteExtremes) : Type 0 where
  pub least : IsExtremeAt order contents e.least
  pub greatest : IsExtremeAt order_down contents e.greatest

-- so many contents are null, and a least and a greatest of the others stand there; nowhere exactly where all are null
pub record ArePlacesOf (contents : List Content) (s : ByteStatistics) : Type 0 where
  pub nulls : s.null_count ≡ count_by is_null_content contents
  pub extremes : MatchOption s.extremes (All (λ c. c ≡ null) contents) (AreExtremesAt contents)

-- ---- of booleans

-- x is one of the truth values, and none of them is below it; and the same from above
abbrev pub IsLeastTruth : List (Option Bool) → Bool → Type 0
IsLeastTruth cells x = Contains cells (Some x) × ((y : Bool) → Contains cells (Some y) → SaysUpTo (Some (truth_cmp x y)))

abbrev pub IsGreatestTruth : List (Option Bool) → Bool → Type 0
IsGreatestTruth cells x = Contains cells (Some x) × ((y : Bool) → Contains cells (Some y) → SaysUpTo (Some (truth_cmp y x)))

-- the least and the greatest truth value; none exactly where all are null
abbrev pub AreTruthsOf : List (Option Bool) → Option Truths → Type 0
AreTruthsOf cells truths = MatchOption truths (All IsNone cells) (λ e. IsLeastTruth cells e.least × IsGreatestTruth cells e.greatest)

-- ---- as statistics

-- the bound's content is one of these
abbrev pub IsAmong : List Content → Bound → Type 0
IsAmong contents b = Contains contents (scalar_content b.value)

-- the statistics are all that can be said of the contents as cells of the type, and their bounds are such cells
pub record AreWholeOf (t : TypeTree) (contents : List Content) (s : ColumnStatistics) : Type 0 where
  pub complete : AreComplete (known s) (map (typed_as t) contents)
  pub typed : HasBoundsIn t s
  pub lower : IfSome s.lower (IsAmong contents)
  pub upper : IfSome s.upper (IsAmong contents)
