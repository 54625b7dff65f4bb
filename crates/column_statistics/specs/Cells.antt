-- The cells of a column as those that statistics speak of: each content as one of the column's type.
use Rattle.std.specs.Prelude.{◌≡◌, ℕ, List, map}
use Rattle.std.specs.Option.{IfSome}
use Rattle.arrow_columns.specs.declared.columns.Column.{Column}
use Rattle.column_cells.specs.Contents.{contents_of_column}
use Rattle.column_cells.specs.Types.{type_of_column}
use Rattle.vortex_dtype.specs.TypeTree.{TypeTree}
use Rattle.vortex_cells.specs.Cells.{Cell}
use Rattle.vortex_statistics.specs.Statistics.{AreComplete, known}
use Rattle.vortex_statistics.specs.Truncating.{AreTruncated}
use Rattle.vortex_statistics.specs.declared.column_statistics.Bound.{Bound}
use Rattle.vortex_statistics.specs.declared.column_statistics.ColumnStatistics.{ColumnStatistics}
use Rattle.vortex_value.specs.Values.Content.{Content}
use Rattle.vortex_value.specs.Values.Scalars.{IsValid, scalar_type}

-- a content as a cell of the type
abbrev pub typed_as : TypeTree → Content → Cell
typed_as t content = record { typed = t; content = content }

-- the cells of a column, by the code of its kind
abbrev pub cells_of_column : Column → List Cell
cells_of_column column = map (typed_as (type_of_column column)) (contents_of_column column)

-- s are all that can be said of the cells, with bounds that are cut to n bytes
pub record AreCutStatistics (n : ℕ) (cells : List Cell) (s : ColumnStatistics) : Type 0 where
  pub whole : ColumnStatistics
  pub complete : AreComplete (known whole) cells
  pub truncated : AreTruncated n whole s

-- the bound is a value of the type
pub record IsBoundIn (t : TypeTree) (b : Bound) : Type 0 where
  pub typed : scalar_type b.value ≡ t
  pub valid : IsValid b.value

-- each bound that is there is a value of the type
pub record HasBoundsIn (t : TypeTree) (s : ColumnStatistics) : Type 0 where
  pub lower : IfSome s.lower (IsBoundIn t)
  pub upper : IfSome s.upper (IsBoundIn t)
