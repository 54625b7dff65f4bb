-- Keys of rows one after another, the rows, and what one of the columns has in these.
use Rattle.std.specs.Global.{Global}
use Rattle.std.specs.List.{All}
use Rattle.std.specs.Prelude.{◌≡◌, ℕ, ◌+◌, ◌-◌, ◌<◌, ◌≤◌, List, [], length, map, slice_index, slice_index_or, slice_range, Vec}
use Rattle.vortex_dtype.specs.TypeOf.{dtype_trees}
use Rattle.vortex_dtype.specs.TypeTree.{TypeTrees}
use Rattle.vortex_value.specs.TypesWithin.{HaveNoVariant}
use Rattle.vortex_value.specs.Values.Content.{Content, content, null}
use Rattle.vortex_value.specs.Values.RawTree.{RawTree, absent}
use Rattle.vortex_value.specs.Values.Scalars.{scalar_raw}
use Rattle.vortex_value.specs.declared.scalars.Scalar.{Scalar}
use Rattle.vortex_row.specs.Decoded.{BeginsWithRow}
use Rattle.vortex_row.specs.declared.options.SortOptions.{SortOptions}
use Rattle.column_keys.specs.declared.keys.RowKeys.{RowKeys}

-- the bytes of the key of a row: from its offset to the next one
abbrev pub key_at : List ℕ → List ℕ → ℕ → List ℕ
key_at bytes offsets row = slice_range bytes (slice_index offsets row) (slice_index offsets (row + 1))

-- how many keys there are: one less than offsets
abbrev pub key_count : List ℕ → ℕ
key_count offsets = length offsets - 1

-- the offsets of a key do not go down, nor past the end of the bytes
abbrev pub IsPlaced : List ℕ → List ℕ → ℕ → Type 0
IsPlaced bytes offsets row = (slice_index offsets row ≤ slice_index offsets (row + 1)) × (slice_index offsets (row + 1) ≤ length bytes)

-- the bytes are the key of a row of values of the types, and this is the content of the one at the place
pub record IsCellOf (options : List SortOptions) (types : TypeTrees) (which : ℕ) (key : List ℕ) (c : Content) : Type 0 where
  pub values : List RawTree
  pub row : BeginsWithRow options types key values []
  pub is : c ≡ content (slice_index_or values which absent)

-- the key of a row is one, and the row has this content in the column
pub record IsCellAt (options : List SortOptions) (types : TypeTrees) (which : ℕ) (bytes offsets : List ℕ) (row : ℕ) (c : Content) : Type 0 where
  pub placed : IsPlaced bytes offsets row
  pub cell : IsCellOf options types which (key_at bytes offsets row) c

-- what the column has in all rows
pub record AreCellsOf (options : List SortOptions) (types : TypeTrees) (which : ℕ) (bytes offsets : List ℕ) (cells : List Content) : Type 0 where
  pub count : length cells ≡ key_count offsets
  pub each : (row : ℕ) → row < length cells → IsCellAt options types which bytes offsets row (slice_index_or cells row null)

-- the key of a row is one of a row of these values
pub record IsRowAt (options : List SortOptions) (types : TypeTrees) (bytes offsets : List ℕ) (row : ℕ) (values : List RawTree) : Type 0 where
  pub placed : IsPlaced bytes offsets row
  pub begins : BeginsWithRow options types (key_at bytes offsets row) values []

-- the types of the columns
abbrev pub types_in : RowKeys → TypeTrees
types_in keys = dtype_trees keys.dtypes.now

-- how many rows there are
abbrev pub count_in : RowKeys → ℕ
count_in keys = key_count keys.offsets.now

-- there are as many options as types, and in none of the types a variant stands
pub record AreTyped (keys : RowKeys) : Type 0 where
  pub counts : length keys.dtypes.now ≡ length keys.options.now
  pub plain : HaveNoVariant (types_in keys)

-- a row of these keys has these values
abbrev pub IsRowOf : RowKeys → ℕ → List RawTree → Type 0
IsRowOf keys row values = IsRowAt keys.options.now (types_in keys) keys.bytes.now keys.offsets.now row values

-- these are the rows of the keys
pub record AreRowsOf (keys : RowKeys) (rows : List (Vec Scalar Global)) : Type 0 where
  pub count : length rows ≡ key_count keys.offsets.now
  pub each : (k : ℕ) (d : Vec Scalar Global) → k < length rows → IsRowOf keys k (map scalar_raw (slice_index_or rows k d).items)

-- each row has a column of this number, and its values there
abbrev pub HaveColumn : List (Vec Scalar Global) → ℕ → Type 0
HaveColumn rows which = All (λ cells. which < length cells.items) rows

abbrev pub raws_in : List (Vec Scalar Global) → ℕ → List RawTree
raws_in rows which = map (λ cells. slice_index_or (map scalar_raw cells.items) which absent) rows
