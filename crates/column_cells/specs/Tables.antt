-- The first of several columns with an error.
use Rattle.std.specs.Prelude.{◌≡◌, ℕ, ◌<◌, List, slice_get, Some}
use Rattle.arrow_columns.specs.declared.columns.Column.{Column}

-- the first columns are sound, each at its place
abbrev pub AreSoundTo : (ℕ → Column → Type 0) → List Column → ℕ → Type 0
AreSoundTo IsSoundAt columns k = (j : ℕ) (column : Column) → j < k → slice_get columns j ≡ Some column → IsSoundAt j column

-- the first column that is not sound has this error
abbrev pub HasFirstError : (ℕ → Column → Type 0) → (ℕ → Column → Type 0) → List Column → Type 0
HasFirstError IsSoundAt IsErrorAt columns = (k : ℕ) × (column : Column) × (slice_get columns k ≡ Some column) × AreSoundTo IsSoundAt columns k × IsErrorAt k column
