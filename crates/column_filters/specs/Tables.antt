-- Columns of which a filter is asked, and why it cannot be.
use Rattle.std.specs.Prelude.{◌≡◌, ◌≢◌, ℕ, ◌<◌, ◌≤◌, Bool, true, false, List, length, map, slice_index_or, take}
use Rattle.std.specs.List.{All}
use Rattle.arrow_columns.specs.Checked.{AreRowsOf}
use Rattle.arrow_columns.specs.Errors.{IsErrorOf}
use Rattle.arrow_columns.specs.declared.columns.Column.{Column}
use Rattle.arrow_columns.specs.declared.tested_rows.Rows.{Rows}
use Rattle.arrow_columns.specs.declared.tested_rows.Rows.TheVariants.{Nulls}
use Rattle.vortex_dtype.specs.TypeTree.{Same, TypeTree, null_type}
use Rattle.vortex_value.specs.Values.Content.{null}
use Rattle.vortex_cells.specs.Cells.{Cell}
use Rattle.vortex_filter.specs.Formula.{Formula}
use Rattle.vortex_filter.specs.Named.{AgreeIn, IsNamed}
use Rattle.column_cells.specs.Contents.{HasTexts, contents_of_column, contents_of_rows}
use Rattle.column_cells.specs.Tables.{AreSoundTo, HasFirstError}
use Rattle.column_cells.specs.Types.{type_of_column, type_of_rows}
use Rattle.column_kernels.specs.Words.{cells_of_row}
use Rattle.arrow_columns.specs.Bitmaps.{bitmap_length}
use Rattle.column_filters.specs.declared.errors.MaskError.{MaskError}
use Rattle.column_filters.specs.declared.errors.MaskError.TheVariants.{BufferTooSmall, OutOfMemory, TypesDiffer, Unreadable, WrongCount, WrongLength}

-- ---- cells

-- the cell of a row of a column
abbrev pub cell_of_column : ℕ → Column → Cell
cell_of_column row column = record { typed = type_of_column column; content = slice_index_or (contents_of_column column) row null }

-- the cells of a row of columns
abbrev pub cells_of_columns : List Column → ℕ → List Cell
cells_of_columns columns row = map (cell_of_column row) columns

-- ---- reading columns

-- the column can be read, is of the type up to nullability, and has so many rows
pub record IsSound (column : Column) (t : TypeTree) (count : ℕ) : Type 0 where
  pub rows : Rows
  pub readable : AreRowsOf column rows
  pub typed : Same (type_of_column column) t
  pub even : length (contents_of_column column) ≡ count

-- this was read of it
pub record IsReadFrom (column : Column) (t : TypeTree) (count : ℕ) (rows : Rows) : Type 0 where
  pub sound : IsSound column t count
  pub typed : type_of_rows rows ≡ type_of_column column
  pub contents : contents_of_rows rows ≡ contents_of_column column
  pub texts : HasTexts rows

-- this was read of it if it is named, and else nulls
abbrev pub IsReadIf : Bool → Column → TypeTree → ℕ → Rows → Type 0
IsReadIf true column t count rows = IsReadFrom column t count rows
IsReadIf false column t count rows = rows ≡ Nulls count

-- the column at a place is sound for its type, if the formula names it: of the others nothing is asked
abbrev pub IsSoundAt : Formula → List TypeTree → ℕ → ℕ → Column → Type 0
IsSoundAt f types count k column = IsNamed f k → IsSound column (slice_index_or types k null_type) count

-- the first columns are sound, and have so many rows, as far as the formula names them
abbrev pub AreSoundBefore : Formula → List Column → List TypeTree → ℕ → ℕ → Type 0
AreSoundBefore f columns types count k = AreSoundTo (IsSoundAt f types count) columns k

-- each column has so many rows, and strings that are UTF-8
abbrev pub HaveRows : List Rows → ℕ → Type 0
HaveRows columns count = All (λ rows. (length (contents_of_rows rows) ≡ count) × HasTexts rows) columns

-- there are as many columns as types, and each that the formula names is sound and has so many rows
pub record AreColumnsOf (f : Formula) (columns : List Column) (types : List TypeTree) (count : ℕ) : Type 0 where
  pub counts : length columns ≡ length types
  pub sound : AreSoundBefore f columns types count (length columns)

-- these were read of the first columns, and have so many rows: of those that the formula names the column's own, and else nulls
pub record AreReadFrom (f : Formula) (columns : List Column) (count k : ℕ) (read : List Rows) : Type 0 where
  pub cells : (row : ℕ) → AgreeIn f (cells_of_row read row) (cells_of_columns (take k columns) row)
  pub rows : HaveRows read count

-- why a column at a place is not sound: the first reason in this order; or memory for its type was refused
abbrev pub IsErrorAt : ℕ → Column → TypeTree → ℕ → MaskError → Type 0
IsErrorAt k column t count OutOfMemory = Unit {0}
IsErrorAt k column t count WrongCount = ⊥
IsErrorAt k column t count BufferTooSmall = ⊥
IsErrorAt k column t count (Unreadable place fault) = (place ≡ k) × IsErrorOf column fault
IsErrorAt k column t count (TypesDiffer place) = (place ≡ k) × ((rows : Rows) × AreRowsOf column rows) × ¬ (Same (type_of_column column) t)
IsErrorAt k column t count (WrongLength place) = (place ≡ k) × ((rows : Rows) × AreRowsOf column rows) × Same (type_of_column column) t × ¬ (length (contents_of_column column) ≡ count)

-- why columns are not those of the types: of those that the formula names the first that is not sound, if there are as many columns
-- as types. Memory is asked only then.
abbrev pub IsTableError : Formula → List Column → List TypeTree → ℕ → MaskError → Type 0
IsTableError f columns types count OutOfMemory = length columns ≡ length types
IsTableError f columns types count WrongCount = length columns ≢ length types
IsTableError f columns types count BufferTooSmall = ⊥
IsTableError f columns types count fault =
    (length columns ≡ length types)
    × HasFirstError (IsSoundAt f types count) (λ k column. IsNamed f k × IsErrorAt k column (slice_index_or types k null_type) count fault) columns

-- why there is no mask of so many bytes: it is too short for the rows, or else for such a reason
abbrev pub IsMaskError : Formula → List Column → List TypeTree → ℕ → ℕ → MaskError → Type 0
IsMaskError f columns types count size BufferTooSmall = size < bitmap_length count
IsMaskError f columns types count size fault = (bitmap_length count ≤ size) × IsTableError f columns types count fault
