-- Tables of columns in Arrow's layout, and why one has no keys.
use Rattle.std.specs.Prelude.{◌≡◌, ◌≢◌, ℕ, ◌/◌, ◌%◌, ◌==◌, ◌<◌, List, length, map, slice_index, take}
use Rattle.std.specs.List.{All}
use Rattle.arrow_columns.specs.Checked.{AreRowsOf}
use Rattle.arrow_columns.specs.Columns.{rows_in}
use Rattle.arrow_columns.specs.Errors.{IsErrorOf}
use Rattle.arrow_columns.specs.declared.columns.Column.{Column}
use Rattle.arrow_columns.specs.declared.tested_rows.Rows.{Rows}
use Rattle.vortex_value.specs.Values.Content.{Content}
use Rattle.vortex_row.specs.declared.options.SortOptions.{SortOptions}
use Rattle.column_cells.specs.Contents.{HasTexts, contents_of_column, contents_of_rows}
use Rattle.column_cells.specs.Tables.{AreSoundTo, HasFirstError}
use Rattle.column_keys.specs.declared.key_columns.KeyColumn.{KeyColumn}
use Rattle.column_keys.specs.declared.errors.TableError.{TableError}
use Rattle.column_keys.specs.declared.errors.TableError.TheVariants.{BadOptions, OutOfMemory, Unreadable, WrongCount, WrongLength}

-- the options of columns that were read, and their contents
abbrev pub options_of : List KeyColumn → List SortOptions
options_of columns = map (λ column. column.options) columns

abbrev pub table_of : List KeyColumn → List (List Content)
table_of columns = map (λ column. contents_of_rows column.rows) columns

-- each column has this row, and strings that are UTF-8
abbrev pub HasRow : List KeyColumn → ℕ → Type 0
HasRow columns row = All (λ column. (row < length (contents_of_rows column.rows)) × HasTexts column.rows) columns

-- each column has so many rows, and strings that are UTF-8
abbrev pub HaveRows : List KeyColumn → ℕ → Type 0
HaveRows columns count = All (λ column. (length (contents_of_rows column.rows) ≡ count) × HasTexts column.rows) columns

-- the options that a byte stands for, if it is below 4: bit 0 is for greater values first, and bit 1 for nulls first
abbrev pub options_in : ℕ → SortOptions
options_in byte = record { descending = byte % 2 == 1; nulls_first = byte / 2 % 2 == 1 }

-- the contents of columns
abbrev pub contents_in : List Column → List (List Content)
contents_in columns = map contents_of_column columns

-- the column can be read, the byte stands for options, and there are so many rows
pub record IsSound (column : Column) (byte count : ℕ) : Type 0 where
  pub rows : Rows
  pub readable : AreRowsOf column rows
  pub options' : byte < 4
  pub even : length (contents_of_column column) ≡ count

-- this was read of it
pub record IsReadFrom (column : Column) (byte count : ℕ) (read : KeyColumn) : Type 0 where
  pub sound : IsSound column byte count
  pub contents : contents_of_rows read.rows ≡ contents_of_column column
  pub texts : HasTexts read.rows
  pub options' : read.options ≡ options_in byte

-- the column at a place is sound with its byte
abbrev pub IsSoundAt : List ℕ → ℕ → ℕ → Column → Type 0
IsSoundAt options count k column = IsSound column (slice_index options k) count

-- the first columns are sound
abbrev pub AreSoundBefore : List Column → List ℕ → ℕ → Type 0
AreSoundBefore columns options k = AreSoundTo (IsSoundAt options (rows_in columns)) columns k

-- these were read of the first columns
pub record AreReadFrom (columns : List Column) (options : List ℕ) (k : ℕ) (read : List KeyColumn) : Type 0 where
  pub contents : table_of read ≡ contents_in (take k columns)
  pub options' : options_of read ≡ map options_in (take k options)
  pub rows : HaveRows read (rows_in columns)

-- why a column at a place is not sound: the first reason in this order
abbrev pub IsErrorAt : ℕ → Column → ℕ → ℕ → TableError → Type 0
IsErrorAt k column byte count OutOfMemory = ⊥
IsErrorAt k column byte count WrongCount = ⊥
IsErrorAt k column byte count (Unreadable place fault) = (place ≡ k) × IsErrorOf column fault
IsErrorAt k column byte count (BadOptions place) = (place ≡ k) × ((rows : Rows) × AreRowsOf column rows) × ¬ (byte < 4)
IsErrorAt k column byte count (WrongLength place) = (place ≡ k) × ((rows : Rows) × AreRowsOf column rows) × (byte < 4) × ¬ (length (contents_of_column column) ≡ count)

-- why a table has no keys: of the columns the first that is not sound, if there are as many options. Memory lacks only if each is sound.
abbrev pub IsTableError : List Column → List ℕ → TableError → Type 0
IsTableError columns options OutOfMemory = (length options ≡ length columns) × AreSoundBefore columns options (length columns)
IsTableError columns options WrongCount = length options ≢ length columns
IsTableError columns options fault =
    (length options ≡ length columns) × HasFirstError (IsSoundAt options (rows_in columns)) (λ k column. IsErrorAt k column (slice_index options k) (rows_in columns) fault) columns
