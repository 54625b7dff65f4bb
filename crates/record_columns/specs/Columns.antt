-- Columns of rows, and the buffers that they are written to.
use Rattle.std.specs.Prelude.{◌≡◌, ◌<◌, ℕ, List, Option, Some, length, map, option_map, slice_get, slice_index, slice_index_or}
use Rattle.arrow_columns.specs.declared.kinds.Kind.{Kind}
use Rattle.column_keys.specs.Layout.{values_length}
use Rattle.column_keys.specs.Read.{HasSpace, IsWritten}
use Rattle.column_keys.specs.declared.buffers.ColumnBuffers.{ColumnBuffers}
use Rattle.filter_pruning.specs.Pruning.{column}
use Rattle.record_rows.specs.declared.schema.Schema.{Schema}
use Rattle.vortex_cells.specs.Cells.{Cell}
use Rattle.vortex_value.specs.Size.{capped}
use Rattle.vortex_value.specs.Values.Content.{Content}
use Rattle.record_columns.specs.Kinds.{kind_of_column}

-- what column k has in rows
abbrev pub contents_in : ℕ → List (List Cell) → List Content
contents_in k rows = map (λ x. x.content) (column k rows)

-- the kind that column k of a schema is written as, if there is that column
abbrev pub kind_in : Schema → ℕ → Option Kind
kind_in s k = option_map kind_of_column (slice_get s.columns.items k)

-- column k of rows is written, and what follows it stays
pub record IsColumnOf (s : Schema) (rows : List (List Cell)) (k : ℕ) (old new : ColumnBuffers) : Type 0 where
  pub kind : Kind
  pub is : kind_in s k ≡ Some kind
  pub written : IsWritten kind (contents_in k rows) old new

-- of column k it is said how many bytes its values have, and nothing else changed
pub record IsCountOf (s : Schema) (rows : List (List Cell)) (k : ℕ) (old new : ColumnBuffers) : Type 0 where
  pub kind : Kind
  pub is : kind_in s k ≡ Some kind
  pub counted : new ≡ record old { count = capped (values_length kind (contents_in k rows)) }

-- the first of these are columns of the schema
abbrev pub AreColumns : Schema → List ℕ → ℕ → Type 0
AreColumns s wanted n = (which : ℕ) → which < n → slice_index wanted which < length s.columns.items

-- this holds of the buffers of each column that is wanted
abbrev pub AreEach : (ℕ → ColumnBuffers → ColumnBuffers → Type 0) → List ℕ → List ColumnBuffers → List ColumnBuffers → Type 0
AreEach Is wanted old new = (which : ℕ) (d : ColumnBuffers) → which < length wanted → Is (slice_index wanted which) (slice_index_or old which d) (slice_index_or new which d)

-- the columns that are wanted are written, each to its buffers
abbrev pub AreColumnsOf : Schema → List (List Cell) → List ℕ → List ColumnBuffers → List ColumnBuffers → Type 0
AreColumnsOf s rows wanted old new = AreEach (IsColumnOf s rows) wanted old new

abbrev pub AreCountsOf : Schema → List (List Cell) → List ℕ → List ColumnBuffers → List ColumnBuffers → Type 0
AreCountsOf s rows wanted old new = AreEach (IsCountOf s rows) wanted old new

-- the buffers are long enough for column k, and say how many bytes its values have
pub record IsReadyFor (s : Schema) (rows : List (List Cell)) (k : ℕ) (column : ColumnBuffers) : Type 0 where
  pub kind : Kind
  pub is : kind_in s k ≡ Some kind
  pub space : HasSpace kind (length rows) column
  pub counts : column.count ≡ values_length kind (contents_in k rows)

-- by what they say they are too short for it
pub record IsShortFor (s : Schema) (rows : List (List Cell)) (k : ℕ) (column : ColumnBuffers) : Type 0 where
  pub kind : Kind
  pub is : kind_in s k ≡ Some kind
  pub lacks : ¬ (HasSpace kind (length rows) column)

-- so are the buffers of each of the first columns that are wanted; or those of one of them are too short
abbrev pub AreReady : Schema → List (List Cell) → List ℕ → ℕ → List ColumnBuffers → Type 0
AreReady s rows wanted n columns = (which : ℕ) (d : ColumnBuffers) → which < n → IsReadyFor s rows (slice_index wanted which) (slice_index_or columns which d)

pub record IsOneShort (s : Schema) (rows : List (List Cell)) (wanted : List ℕ) (n : ℕ) (columns : List ColumnBuffers) : Type 0 where
  pub which : ℕ
  pub within : which < n
  pub short : (d : ColumnBuffers) → IsShortFor s rows (slice_index wanted which) (slice_index_or columns which d)
