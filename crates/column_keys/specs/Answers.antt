-- What is answered of kinds, options and keys as they come.
use Rattle.std.specs.Prelude.{◌≡◌, ℕ, ◌<◌, List, map, Option, None, Some, length, slice_index_or}
use Rattle.arrow_columns.specs.declared.kinds.Kind.{Kind}
use Rattle.column_keys.specs.Tables.{options_in}
use Rattle.vortex_dtype.specs.TypeOf.{as_type_trees}
use Rattle.vortex_value.specs.Size.{capped}
use Rattle.vortex_value.specs.Values.Content.{Content}
use Rattle.vortex_value.specs.Values.RawTree.{RawTree}
use Rattle.column_keys.specs.Cells.{AreCellsOf, IsRowAt, key_count}
use Rattle.column_keys.specs.Errors.{IsFirstError}
use Rattle.column_keys.specs.Layout.{values_length}
use Rattle.column_keys.specs.Read.{AreStored, HasSpace, IsFirstNoValue, IsWritten}
use Rattle.column_keys.specs.Types.{HaveLengths, HaveTypes, IsTypesError, types_of_kinds}
use Rattle.column_keys.specs.declared.buffers.ColumnBuffers.{ColumnBuffers}
use Rattle.column_keys.specs.declared.errors.KeysError.{KeysError}
use Rattle.column_keys.specs.declared.errors.KeysError.TheVariants.{BadBytes, BadOffsets, BufferTooSmall, NotAValue}

-- what the column has in all rows, by the kinds and the bytes of options
abbrev pub AreCellsBy : List (Option Kind) → List ℕ → ℕ → List ℕ → List ℕ → List Content → Type 0
AreCellsBy found options which bytes offsets cells = AreCellsOf (map options_in options) (as_type_trees (types_of_kinds found)) which bytes offsets cells

-- the column that the keys give: its kind and its cells
pub record HasCells (found : List (Option Kind)) (options : List ℕ) (which : ℕ) (bytes offsets : List ℕ) (kind : Kind) (cells : List Content) : Type 0 where
  pub kind_is : slice_index_or found which None ≡ Some kind
  pub cells_are : AreCellsBy found options which bytes offsets cells

-- each of its cells is null, or stores a value of the kind
pub record HasValues (found : List (Option Kind)) (options : List ℕ) (which : ℕ) (bytes offsets : List ℕ) (kind : Kind) (cells : List Content) : Type 0 where
  pub has : HasCells found options which bytes offsets kind cells
  pub stored : AreStored kind cells (length cells)

-- so do those of the first columns
abbrev pub HaveValuesTo : List (Option Kind) → List ℕ → List ℕ → List ℕ → ℕ → Type 0
HaveValuesTo found options bytes offsets n =
    (which : ℕ) (kind : Kind) → which < n → slice_index_or found which None ≡ Some kind → (cells : List Content) × HasValues found options which bytes offsets kind cells

-- each key is one of a row of values of the types
abbrev pub AreKeys : List (Option Kind) → List ℕ → List ℕ → List ℕ → Type 0
AreKeys found options bytes offsets = (row : ℕ) → row < key_count offsets → (values : List RawTree) × IsRowAt (map options_in options) (as_type_trees (types_of_kinds found)) bytes offsets row values

-- the column of this number is written, and what follows it stays
pub record IsColumnAt (found : List (Option Kind)) (options bytes offsets : List ℕ) (which : ℕ) (old new : ColumnBuffers) : Type 0 where
  pub kind : Kind
  pub cells : List Content
  pub has : HasCells found options which bytes offsets kind cells
  pub stored : AreStored kind cells (length cells)
  pub written : IsWritten kind cells old new

-- each key is well, and each column that they give is written to its buffers
pub record AreColumnsOfKeys (found : List (Option Kind)) (options bytes offsets : List ℕ) (old new : List ColumnBuffers) : Type 0 where
  pub types : HaveTypes found options
  pub count : length old ≡ length found
  pub keys : AreKeys found options bytes offsets
  pub each : (which : ℕ) (d : ColumnBuffers) → which < length found → IsColumnAt found options bytes offsets which (slice_index_or old which d) (slice_index_or new which d)

-- of the column of this number it is said how many bytes its values have, and nothing else changed
pub record IsCountAt (found : List (Option Kind)) (options bytes offsets : List ℕ) (which : ℕ) (old new : ColumnBuffers) : Type 0 where
  pub kind : Kind
  pub cells : List Content
  pub has : HasCells found options which bytes offsets kind cells
  pub counted : new ≡ record old { count = capped (values_length kind cells) }

abbrev pub AreCountsOfKeys : List (Option Kind) → List ℕ → List ℕ → List ℕ → List ColumnBuffers → List ColumnBuffers → Type 0
AreCountsOfKeys found options bytes offsets old new = (which : ℕ) (d : ColumnBuffers) → which < length found → IsCountAt found options bytes offsets which (slice_index_or old which d) (slice_index_or new which d)

-- each row has values of the kinds, and the buffers of one of the columns are too short for it
pub record LacksBuffer (found : List (Option Kind)) (options bytes offsets : List ℕ) (columns : List ColumnBuffers) : Type 0 where
  pub values : HaveValuesTo found options bytes offsets (length found)
  pub which : ℕ
  pub within : which < length found
  pub kind : Kind
  pub cells : List Content
  pub has : HasCells found options which bytes offsets kind cells
  pub lacks : (d : ColumnBuffers) → ¬ (HasSpace kind (length cells) (record (slice_index_or columns which d) { count = capped (values_length kind cells) }))

-- a row has no value of the column's logical type, of all columns and rows the first
pub record LacksValue (found : List (Option Kind)) (options bytes offsets : List ℕ) (column row : ℕ) : Type 0 where
  pub within : column < length found
  pub kind : Kind
  pub cells : List Content
  pub has : HasCells found options column bytes offsets kind cells
  pub first : IsFirstNoValue kind cells row
  pub before : HaveValuesTo found options bytes offsets column

-- why keys give no columns in these buffers: the columns have no types, or else the first reason in this order
abbrev pub IsRefusal : List (Option Kind) → List ℕ → List ℕ → List ℕ → List ColumnBuffers → KeysError → Type 0
IsRefusal found options bytes offsets columns (BadOffsets row) =
    HaveLengths found options (length columns) × HaveTypes found options × IsFirstError (map options_in options) (as_type_trees (types_of_kinds found)) bytes offsets (BadOffsets row)
IsRefusal found options bytes offsets columns (BadBytes place) =
    HaveLengths found options (length columns) × HaveTypes found options × IsFirstError (map options_in options) (as_type_trees (types_of_kinds found)) bytes offsets (BadBytes place)
IsRefusal found options bytes offsets columns (NotAValue column row) = HaveLengths found options (length columns) × HaveTypes found options × LacksValue found options bytes offsets column row
IsRefusal found options bytes offsets columns BufferTooSmall = HaveLengths found options (length columns) × HaveTypes found options × LacksBuffer found options bytes offsets columns
IsRefusal found options bytes offsets columns fault = IsTypesError found options (length columns) fault
