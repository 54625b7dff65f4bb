-- Why a column has no statistics.
use Rattle.std.specs.Prelude.{◌⊎◌, List, Contains, Option, Some, None}
use Rattle.arrow_columns.specs.Columns.{kind_in}
use Rattle.arrow_columns.specs.declared.kinds.Kind.{Kind}
use Rattle.arrow_columns.specs.declared.tested_rows.Rows.TheVariants.{Values}
use Rattle.column_cells.specs.Types.{IsLogical}
use Rattle.arrow_columns.specs.Checked.{AreRowsOf}
use Rattle.arrow_columns.specs.Errors.{IsErrorOf}
use Rattle.arrow_columns.specs.declared.columns.Column.{Column}
use Rattle.arrow_columns.specs.declared.tested_rows.Rows.{Rows}
use Rattle.column_cells.specs.Contents.{IsLongContent, contents_of_column, contents_of_rows}
use Rattle.vortex_value.specs.Values.Content.{Content}
use Rattle.column_statistics.specs.declared.errors.ColumnStatisticsError.{ColumnStatisticsError}
use Rattle.column_statistics.specs.declared.errors.ColumnStatisticsError.TheVariants.{OutOfMemory, Unreadable}

-- the column has rows that can be read
pub record IsReadable (column : Column) : Type 0 where
  pub rows : Rows
  pub are_rows : AreRowsOf column rows

-- one of the contents is a string, or bytes, that take memory of their own
pub record HasLong (contents : List Content) : Type 0 where
  pub content : Content
  pub among : Contains contents content
  pub long : IsLongContent content

-- the values of the rows take memory of their own: a long one, or those of a logical type, for their type
abbrev pub TakeMemory : Rows → Type 0
TakeMemory (Values rows) = Unit {0}
TakeMemory rows = HasLong (contents_of_rows rows)

-- the column is of a logical type
abbrev pub IsLogicalAt : Option Kind → Type 0
IsLogicalAt None = ⊥
IsLogicalAt (Some kind) = IsLogical kind

-- why a column has no statistics: there is no memory for a long value, or for one of a logical type, or the column cannot be read
abbrev pub IsColumnStatisticsError : Column → ColumnStatisticsError → Type 0
IsColumnStatisticsError column OutOfMemory = IsReadable column × (HasLong (contents_of_column column) ⊎ IsLogicalAt (kind_in column))
IsColumnStatisticsError column (Unreadable fault) = IsErrorOf column fault
