-- The columns of rows, and the buffers that they are written to.
use Rattle.std.specs.Global.{Global}
use Rattle.std.specs.List.{All}
use Rattle.std.specs.Prelude.{◌≡◌, ℕ, ◌-◌, ◌^◌, ◌<◌, ◌≤◌, List, Option, None, Some, Vec, drop, length, map, slice_index_or, take}
use Rattle.arrow_columns.specs.Bitmaps.{bitmap_length}
use Rattle.arrow_columns.specs.declared.kinds.Kind.{Kind}
use Rattle.column_cells.specs.Types.{type_at}
use Rattle.vortex_value.specs.Size.{capped}
use Rattle.vortex_value.specs.Validity.{Valid}
use Rattle.column_items.specs.Numbers.{HasContentOf}
use Rattle.vortex_value.specs.Values.Content.{Content, content, null}
use Rattle.vortex_value.specs.declared.scalars.Scalar.{Scalar}
use Rattle.column_keys.specs.Cells.{HaveColumn, raws_in}
use Rattle.column_keys.specs.Layout.{IsColumnOf, offsets_length, values_length}
use Rattle.column_keys.specs.declared.buffers.ColumnBuffers.{ColumnBuffers}
use Rattle.column_keys.specs.declared.errors.KeysError.{KeysError}
use Rattle.column_keys.specs.declared.errors.KeysError.TheVariants.{NotAValue}

-- ---- what one column takes

-- the buffers are long enough for a column of so many rows, whose values have as many bytes as they say: fewer than 2 ^ 64 - 1
pub record HasSpace (kind : Kind) (rows : ℕ) (column : ColumnBuffers) : Type 0 where
  pub bits : bitmap_length rows ≤ length column.validity.now
  pub items : column.count ≤ length column.values.now
  pub counted : column.count < 2 ^ 64 - 1
  pub places : offsets_length kind rows ≤ length column.offsets.now

-- the buffers are where they were
abbrev pub AreSameBuffers : ColumnBuffers → ColumnBuffers → Type 0
AreSameBuffers old new = (new.validity.ghost_name ≡ old.validity.ghost_name) × (new.values.ghost_name ≡ old.values.ghost_name) × (new.offsets.ghost_name ≡ old.offsets.ghost_name)

-- the buffers were long enough for the column of the kind with these cells, and begin with it; what follows stays
pub record IsWritten (kind : Kind) (cells : List Content) (old new : ColumnBuffers) : Type 0 where
  pub counted : new.count ≡ values_length kind cells
  pub column : IsColumnOf kind cells (take (bitmap_length (length cells)) new.validity.now) (take (values_length kind cells) new.values.now) (take (offsets_length kind (length cells)) new.offsets.now)
  pub bits : bitmap_length (length cells) ≤ length old.validity.now
  pub items : values_length kind cells ≤ length old.values.now
  pub places : offsets_length kind (length cells) ≤ length old.offsets.now
  pub rest_bits : drop (bitmap_length (length cells)) new.validity.now ≡ drop (bitmap_length (length cells)) old.validity.now
  pub rest_items : drop (values_length kind cells) new.values.now ≡ drop (values_length kind cells) old.values.now
  pub rest_places : drop (offsets_length kind (length cells)) new.offsets.now ≡ drop (offsets_length kind (length cells)) old.offsets.now
  pub same : AreSameBuffers old new

-- ---- the columns of these kinds

-- the rows have so many columns
abbrev pub HaveColumns : List (Vec Scalar Global) → ℕ → Type 0
HaveColumns rows n = (which : ℕ) → which < n → HaveColumn rows which

-- and values of the types
abbrev pub HaveValues : List (Option Kind) → List (Vec Scalar Global) → Type 0
HaveValues found rows = (which : ℕ) → which < length found → All (Valid (type_at (slice_index_or found which None))) (raws_in rows which)

-- the cells before a row are null, or values of the kind
abbrev pub AreStored : Kind → List Content → ℕ → Type 0
AreStored kind cells n = (row : ℕ) → row < n → HasContentOf kind (slice_index_or cells row null)

-- the first row whose cell is neither
pub record IsFirstNoValue (kind : Kind) (cells : List Content) (row : ℕ) : Type 0 where
  pub within : row < length cells
  pub before : AreStored kind cells row
  pub none : ¬ (HasContentOf kind (slice_index_or cells row null))

-- the cells of the first columns are null, or values of their kinds
abbrev pub HaveStored : List (Option Kind) → List (Vec Scalar Global) → ℕ → Type 0
HaveStored found rows n = (which : ℕ) (kind : Kind) → which < n → slice_index_or found which None ≡ Some kind → AreStored kind (map content (raws_in rows which)) (length rows)

-- the first column in which a row has neither, and the first such row
abbrev pub IsNoValueIn : List (Option Kind) → List (Vec Scalar Global) → KeysError → Type 0
IsNoValueIn found rows (NotAValue column row) =
    (column < length found) × HaveStored found rows column
    × ((kind : Kind) × (slice_index_or found column None ≡ Some kind) × IsFirstNoValue kind (map content (raws_in rows column)) row)
IsNoValueIn found rows _ = ⊥

-- the first columns say how many bytes their values have, and nothing else changed
pub record AreCountedIn (found : List (Option Kind)) (rows : List (Vec Scalar Global)) (n : ℕ) (old new : List ColumnBuffers) : Type 0 where
  pub each : (which : ℕ) (d : ColumnBuffers) → which < n
      → (kind : Kind) × (slice_index_or found which None ≡ Some kind)
      × (slice_index_or new which d ≡ record (slice_index_or old which d) { count = capped (values_length kind (map content (raws_in rows which))) })
  pub others : (which : ℕ) (d : ColumnBuffers) → n ≤ which → slice_index_or new which d ≡ slice_index_or old which d

-- each column says it truly
abbrev pub HaveCounts : List (Option Kind) → List (Vec Scalar Global) → List ColumnBuffers → Type 0
HaveCounts found rows columns =
    (which : ℕ) (d : ColumnBuffers) (kind : Kind) → which < length found → slice_index_or found which None ≡ Some kind → (slice_index_or columns which d).count ≡ values_length kind (map content (raws_in rows which))

-- the buffers of the first columns are long enough, or those of one of them are not
abbrev pub HaveSpace : List (Option Kind) → List (Vec Scalar Global) → ℕ → List ColumnBuffers → Type 0
HaveSpace found rows n columns = (which : ℕ) (d : ColumnBuffers) (kind : Kind) → which < n → slice_index_or found which None ≡ Some kind → HasSpace kind (length rows) (slice_index_or columns which d)

pub record LackSpace (found : List (Option Kind)) (rows : List (Vec Scalar Global)) (n : ℕ) (columns : List ColumnBuffers) : Type 0 where
  pub which : ℕ
  pub within : which < n
  pub kind : Kind
  pub is : slice_index_or found which None ≡ Some kind
  pub lacks : (d : ColumnBuffers) → ¬ (HasSpace kind (length rows) (slice_index_or columns which d))

-- the first columns are written, and the others are as they were
pub record AreWrittenIn (found : List (Option Kind)) (rows : List (Vec Scalar Global)) (n : ℕ) (old new : List ColumnBuffers) : Type 0 where
  pub each : (which : ℕ) (d : ColumnBuffers) → which < n
      → (kind : Kind) × (slice_index_or found which None ≡ Some kind) × IsWritten kind (map content (raws_in rows which)) (slice_index_or old which d) (slice_index_or new which d)
  pub others : (which : ℕ) (d : ColumnBuffers) → n ≤ which → slice_index_or new which d ≡ slice_index_or old which d
