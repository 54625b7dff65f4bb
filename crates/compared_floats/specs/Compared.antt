-- Floats in the buffers of columns, and the number that a filter compares them with.
use Rattle.std.specs.Prelude.{◌≡◌, ◌+◌, ◌<◌, ℕ, List, Some, false, true, length, slice_get}
use Rattle.std.specs.Float.{Format, binary32, binary64}
use Rattle.std.specs.Int.{from_le_bytes, w32, w64}
use Rattle.std.specs.Ordering.{nan_last_cmp}
use lib.Ieee.{of_bits}
use Rattle.arrow_columns.specs.Bitmaps.{is_valid}
use Rattle.arrow_columns.specs.Columns.{kind_in, rows_in}
use Rattle.arrow_columns.specs.Integers.{item_at}
use Rattle.arrow_columns.specs.declared.columns.Column.{Column}
use Rattle.arrow_columns.specs.declared.formats.Format.TheVariants as formats
use Rattle.arrow_columns.specs.declared.kinds.Kind.{Kind}
use Rattle.arrow_columns.specs.declared.kinds.Kind.TheVariants.{Logical}
use Rattle.column_cells.specs.Contents.{contents_of_column}
use Rattle.column_statistics.specs.Cells.{cells_of_column}
use Rattle.filter_pruning.specs.Outcomes.{outcomes}
use Rattle.float_storage.specs.Storage.{storage_of_bits}
use Rattle.logical_scalars.specs.Stored.{Holds}
use Rattle.logical_types.specs.declared.logical.LogicalType.{LogicalType}
use Rattle.logical_types.specs.declared.logical.LogicalType.TheVariants.{Float32, Float64}
use Rattle.vortex_cells.specs.Cells.{cell_of}
use Rattle.vortex_filter.specs.Formula.{Formula, comparison}
use Rattle.vortex_filter.specs.Operators.{holds}
use Rattle.vortex_filter.specs.declared.operator.CompareOperator.{CompareOperator}
use Rattle.vortex_statistics.specs.Statistics.{AreRight, Known}
use Rattle.vortex_value.specs.declared.scalars.Scalar.{Scalar}

-- columns, and scalars, of such floats
abbrev pub kind_of : Format → Kind
kind_of binary32 = Logical formats.Float32
kind_of binary64 = Logical formats.Float64

abbrev pub logical_of : Format → LogicalType
logical_of binary32 = Float32
logical_of binary64 = Float64

-- the bits of a row in the buffer of a column of such floats, the low byte first
abbrev pub bits_in : Format → Column → ℕ → ℕ
bits_in binary32 column row = from_le_bytes w32 (item_at 4 column.values.now (column.offset + row))
bits_in binary64 column row = from_le_bytes w64 (item_at 8 column.values.now (column.offset + row))

-- column k is of such floats, and has these bits in a row that is no null
pub record HasFloat (f : Format) (columns : List Column) (k row bits : ℕ) : Type 0 where
  pub column : Column
  pub there : slice_get columns k ≡ Some column
  pub kind : kind_in column ≡ Some (kind_of f)
  pub within : row < column.length
  pub value : is_valid column.validity.now (column.offset + row) ≡ true
  pub is : bits_in f column row ≡ bits

-- the statistics of each column are right for it, and each has as many rows as the first
pub record AreOf (columns : List Column) (statistics : List Known) : Type 0 where
  pub counts : length statistics ≡ length columns
  pub even : (k : ℕ) (column : Column) → slice_get columns k ≡ Some column → length (contents_of_column column) ≡ rows_in columns
  pub right : (k : ℕ) (column : Column) (s : Known) → slice_get columns k ≡ Some column → slice_get statistics k ≡ Some s → AreRight s (cells_of_column column)

-- such statistics say that no row matches
pub record AreLeftOut (columns : List Column) (f : Formula) : Type 0 where
  pub statistics : List Known
  pub are : AreOf columns statistics
  pub none : (outcomes f statistics).may_be_true ≡ false

-- no such bits are a float that compares so with the number
abbrev pub FloatsAreCompared : Type 0
FloatsAreCompared = (f : Format) (columns : List Column) (k row : ℕ) (op : CompareOperator) (literal : Scalar) (bits number : ℕ) → AreLeftOut columns (comparison k op (cell_of literal))
    → Holds (logical_of f) (storage_of_bits f number) literal → HasFloat f columns k row bits
    → holds op (nan_last_cmp (of_bits f bits) (of_bits f number)) ≡ false
