-- A column in Arrow's layout with offsets of 64 bits, and how cells are written in it.
use Rattle.std.specs.Prelude.{◌≡◌, ℕ, ℤ, pos, ◌+◌, ◌*◌, ◌<◌, ◌≤◌, Bool, true, false, List, [], ◌∷◌, length, map, replicate, slice_index, slice_index_or, slice_range}
use Rattle.arrow_columns.specs.Bitmaps.{bit_of, bitmap_length}
use Rattle.arrow_columns.specs.Cells.{cells_from}
use Rattle.arrow_columns.specs.Formats.{items_of}
use Rattle.arrow_columns.specs.Integers.{integer_of, item_at, number_of, width_of, width_of_item}
use Rattle.arrow_columns.specs.declared.formats.Format.{Format}
use Rattle.arrow_columns.specs.Offsets.{bytes_between}
use Rattle.arrow_columns.specs.declared.kinds.IntegerKind.{IntegerKind}
use Rattle.arrow_columns.specs.declared.kinds.Kind.{Kind}
use Rattle.arrow_columns.specs.declared.kinds.Kind.TheVariants.{Binary, Boolean, Integer, LargeBinary, LargeUtf8, Logical, Null, Utf8}
use Rattle.column_cells.specs.Contents.{content_or_null, stored_content}
use Rattle.column_items.specs.Items.{IsCanonical}
use Rattle.vortex_value.specs.Values.Content.{Content, null, string, text, truth, whole}

-- the contents of the first rows of a column of this kind, whose offsets have 64 bits each
abbrev pub contents_written : Kind → List ℕ → List ℕ → List ℕ → ℕ → List Content
contents_written (Integer kind) validity values offsets count = map (content_or_null whole) (cells_from validity (λ i. integer_of kind (item_at (width_of kind) values i)) 0 count)
contents_written Boolean validity values offsets count = map (content_or_null truth) (cells_from validity (bit_of values) 0 count)
contents_written Utf8 validity values offsets count = map (content_or_null text) (cells_from validity (bytes_between values (slice_index offsets)) 0 count)
contents_written LargeUtf8 validity values offsets count = map (content_or_null text) (cells_from validity (bytes_between values (slice_index offsets)) 0 count)
contents_written Binary validity values offsets count = map (content_or_null string) (cells_from validity (bytes_between values (slice_index offsets)) 0 count)
contents_written LargeBinary validity values offsets count = map (content_or_null string) (cells_from validity (bytes_between values (slice_index offsets)) 0 count)
contents_written Null validity values offsets count = replicate count null
contents_written (Logical format) validity values offsets count =
    map (content_or_null (stored_content format)) (cells_from validity (λ i. number_of (items_of format) (item_at (width_of_item (items_of format)) values i)) 0 count)

-- whether a content is no null, and the number, the truth and the bytes of one that has them
abbrev pub is_present : Content → Bool
is_present null = false
is_present c = true

abbrev pub number_in : Content → ℤ
number_in (whole z) = z
number_in c = pos 0

abbrev pub truth_in : Content → Bool
truth_in (truth b) = b
truth_in c = false

abbrev pub bytes_in : Content → List ℕ
bytes_in (text bytes) = bytes
bytes_in (string bytes) = bytes
bytes_in c = []

-- how many bytes they have together
abbrev pub bytes_length : List Content → ℕ
bytes_length [] = 0
bytes_length (c ∷ cells) = length (bytes_in c) + bytes_length cells

-- how many bytes the values of a column with these cells have
abbrev pub values_length : Kind → List Content → ℕ
values_length (Integer kind) cells = length cells * width_of kind
values_length Boolean cells = bitmap_length (length cells)
values_length Null cells = 0
values_length (Logical format) cells = length cells * width_of_item (items_of format)
values_length kind cells = bytes_length cells

-- how many offsets a column of so many rows has
abbrev pub offsets_length : Kind → ℕ → ℕ
offsets_length (Integer kind) count = 0
offsets_length Boolean count = 0
offsets_length Null count = 0
offsets_length (Logical format) count = 0
offsets_length kind count = count + 1

-- the bit of each cell says this of it, and the bits after the last cell are 0
pub record AreBits (of_cell : Content → Bool) (cells : List Content) (bitmap : List ℕ) : Type 0 where
  pub rows : (row : ℕ) → row < length cells → bit_of bitmap row ≡ of_cell (slice_index_or cells row null)
  pub zeros : (row : ℕ) → length cells ≤ row → row < 8 * bitmap_length (length cells) → bit_of bitmap row ≡ false

-- there is an integer of the kind for each cell, 0 for a null
abbrev pub AreIntegers : IntegerKind → List Content → List ℕ → Type 0
AreIntegers kind cells values = (row : ℕ) → row < length cells → integer_of kind (item_at (width_of kind) values row) ≡ number_in (slice_index_or cells row null)

-- the number is what the content stores, or 0 for a null
abbrev pub IsNumberIn : Format → Content → ℤ → Type 0
IsNumberIn format null z = z ≡ pos 0
IsNumberIn format c z = stored_content format z ≡ c

-- the item is the one of the format that is written of a cell: its number is what the content stores, or 0 for a null; of a float 0 has
-- no sign, and there is one NaN
pub record IsItemIn (format : Format) (c : Content) (item : List ℕ) : Type 0 where
  pub number : IsNumberIn format c (number_of (items_of format) item)
  pub canonical : IsCanonical (items_of format) item

-- there is such an item for each cell
abbrev pub AreNumbers : Format → List Content → List ℕ → Type 0
AreNumbers format cells values = (row : ℕ) → row < length cells → IsItemIn format (slice_index_or cells row null) (item_at (width_of_item (items_of format)) values row)

-- there are the bytes of each cell, none for a null, one after the other from the first byte on
pub record AreStrings (cells : List Content) (values offsets : List ℕ) : Type 0 where
  pub start : slice_index offsets 0 ≡ 0
  pub ends : (row : ℕ) → row < length cells → slice_index offsets (row + 1) ≡ slice_index offsets row + length (bytes_in (slice_index_or cells row null))
  pub strings : (row : ℕ) → row < length cells → slice_range values (slice_index offsets row) (slice_index offsets (row + 1)) ≡ bytes_in (slice_index_or cells row null)

-- the values of the cells, as a column of the kind has them
abbrev pub AreValuesAt : Kind → List Content → List ℕ → List ℕ → Type 0
AreValuesAt (Integer kind) cells values offsets = AreIntegers kind cells values
AreValuesAt Boolean cells values offsets = AreBits truth_in cells values
AreValuesAt Null cells values offsets = Unit {0}
AreValuesAt (Logical format) cells values offsets = AreNumbers format cells values
AreValuesAt kind cells values offsets = AreStrings cells values offsets

-- a column of the kind with these cells
pub record IsColumnOf (kind : Kind) (cells : List Content) (validity values offsets : List ℕ) : Type 0 where
  pub contents : contents_written kind validity values offsets (length cells) ≡ cells
  pub present : AreBits is_present cells validity
  pub written : AreValuesAt kind cells values offsets
