-- Why bytes are no keys of rows.
use Rattle.std.specs.Prelude.{◌≡◌, ◌≢◌, ℕ, ◌+◌, ◌<◌, ◌⊎◌, List, [], ◌++◌, length, slice_index}
use Rattle.vortex_dtype.specs.TypeTree.{TypeTrees}
use Rattle.vortex_value.specs.Values.RawTree.{RawTree}
use Rattle.vortex_row.specs.Decoded.{IsFirstBad, IsRowKeyOf}
use Rattle.vortex_row.specs.declared.options.SortOptions.{SortOptions}
use Rattle.column_keys.specs.Cells.{IsPlaced, IsRowAt, key_at, key_count, types_in}
use Rattle.column_keys.specs.declared.errors.KeysError.{KeysError}
use Rattle.column_keys.specs.declared.errors.KeysError.TheVariants.{BadBytes, BadOffsets, OutOfMemory}
use Rattle.column_keys.specs.declared.keys.RowKeys.{RowKeys}

-- the bytes go on after one of these, which is so long
pub record GoesOnAfter (IsOne : List ℕ → Type 0) (bytes : List ℕ) (place : ℕ) : Type 0 where
  pub key : List ℕ
  pub rest : List ℕ
  pub is_one : IsOne key
  pub is : bytes ≡ key ++ rest
  pub more : rest ≢ []
  pub at : place ≡ length key

-- the bytes are no key of a row of the types: the offset of the first byte that none has there, or of the first after one
abbrev pub IsWrongKey : List SortOptions → TypeTrees → List ℕ → ℕ → Type 0
IsWrongKey options types bytes place = IsFirstBad (IsRowKeyOf options types) bytes place ⊎ GoesOnAfter (IsRowKeyOf options types) bytes place

-- why the key of a row is none
abbrev pub IsKeyErrorAt : List SortOptions → TypeTrees → List ℕ → List ℕ → ℕ → KeysError → Type 0
IsKeyErrorAt options types bytes offsets row OutOfMemory = Unit {0}
IsKeyErrorAt options types bytes offsets row (BadOffsets at) = (at ≡ row) × ¬ (IsPlaced bytes offsets row)
IsKeyErrorAt options types bytes offsets row (BadBytes place) =
    IsPlaced bytes offsets row × ((p : ℕ) × (place ≡ slice_index offsets row + p) × IsWrongKey options types (key_at bytes offsets row) p)
IsKeyErrorAt options types bytes offsets row _ = ⊥

-- of the keys the first that is none
pub record IsFirstError (options : List SortOptions) (types : TypeTrees) (bytes offsets : List ℕ) (fault : KeysError) : Type 0 where
  pub row : ℕ
  pub within : row < key_count offsets
  pub before : (k : ℕ) → k < row → (values : List RawTree) × IsRowAt options types bytes offsets k values
  pub cause : IsKeyErrorAt options types bytes offsets row fault

-- why keys are refused
abbrev pub RefusesKeys : List SortOptions → TypeTrees → List ℕ → List ℕ → KeysError → Type 0
RefusesKeys options types bytes offsets OutOfMemory = Unit {0}
RefusesKeys options types bytes offsets fault = IsFirstError options types bytes offsets fault

-- the same of keys as they come
abbrev pub IsRowReadError : RowKeys → ℕ → KeysError → Type 0
IsRowReadError keys row fault = IsKeyErrorAt keys.options.now (types_in keys) keys.bytes.now keys.offsets.now row fault

abbrev pub Refuses : RowKeys → KeysError → Type 0
Refuses keys fault = RefusesKeys keys.options.now (types_in keys) keys.bytes.now keys.offsets.now fault
