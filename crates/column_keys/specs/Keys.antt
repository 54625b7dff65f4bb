-- The keys of the rows of a table: some columns of contents, each sorted by its options.
use Rattle.std.specs.Prelude.{◌≡◌, ℕ, zero, suc, ◌+◌, ◌<◌, List, length, map, slice_index, slice_index_or, slice_range}
use Rattle.vortex_value.specs.Values.Content.{Content, null}
use Rattle.vortex_row.specs.Columns.{row_key}
use Rattle.vortex_row.specs.Keys.{key}
use Rattle.vortex_row.specs.declared.options.SortOptions.{SortOptions}

-- the contents of a row
abbrev pub row_of : List (List Content) → ℕ → List Content
row_of table row = map (λ cells. slice_index_or cells row null) table

-- the key of a row
abbrev pub key_of_row : List SortOptions → List (List Content) → ℕ → List ℕ
key_of_row options table row = row_key options (row_of table row)

-- how many bytes the keys of the first rows have together
abbrev pub keys_length : List SortOptions → List (List Content) → ℕ → ℕ
keys_length options table zero = 0
keys_length options table (suc row) = keys_length options table row + length (key_of_row options table row)

-- how many bytes the keys of the first cells of a column have together
abbrev pub column_length : List Content → ℕ → ℕ
column_length cells zero = 0
column_length cells (suc row) = column_length cells row + length (key (slice_index_or cells row null))

-- from each offset to the next the bytes are the key of a row, and the first offset is 0
pub record AreRowKeys (options : List SortOptions) (table : List (List Content)) (count : ℕ) (offsets bytes : List ℕ) : Type 0 where
  pub start : slice_index offsets 0 ≡ 0
  pub ends : (row : ℕ) → row < count → slice_index offsets (row + 1) ≡ slice_index offsets row + length (key_of_row options table row)
  pub keys : (row : ℕ) → row < count → slice_range bytes (slice_index offsets row) (slice_index offsets (row + 1)) ≡ key_of_row options table row
