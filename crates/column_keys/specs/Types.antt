-- The types and the options of columns, by their kinds, and why there are none.
use Rattle.std.specs.Prelude.{◌≡◌, ◌≢◌, ◌⊎◌, ℕ, ◌<◌, List, length, map, slice_index, slice_index_or, Option, None}
use Rattle.arrow_columns.specs.declared.kinds.Kind.{Kind}
use Rattle.column_cells.specs.Types.{type_at}
use Rattle.column_keys.specs.declared.errors.KeysError.{KeysError}
use Rattle.column_keys.specs.declared.errors.KeysError.TheVariants.{BadOptions, OutOfMemory, UnknownKind, WrongLength}
use Rattle.vortex_dtype.specs.TypeTree.{TypeTree}

-- the types of kinds; of none, that of nulls
abbrev pub types_of_kinds : List (Option Kind) → List TypeTree
types_of_kinds found = map type_at found

-- the first ones are kinds
abbrev pub AreKinds : List (Option Kind) → ℕ → Type 0
AreKinds found n = (k : ℕ) → k < n → slice_index_or found k None ≢ None

-- the first bytes stand for options
abbrev pub AreOptions : List ℕ → ℕ → Type 0
AreOptions bytes n = (k : ℕ) → k < n → slice_index bytes k < 4

-- the first that is no kind
abbrev pub IsFirstUnknown : List (Option Kind) → ℕ → Type 0
IsFirstUnknown found k = (k < length found) × AreKinds found k × (slice_index_or found k None ≡ None)

-- the first byte that stands for no options
abbrev pub IsFirstBadOptions : List ℕ → ℕ → Type 0
IsFirstBadOptions bytes k = (k < length bytes) × AreOptions bytes k × ¬ (slice_index bytes k < 4)

-- why bytes stand for no options
abbrev pub IsOptionsError : List ℕ → KeysError → Type 0
IsOptionsError bytes (BadOptions k) = IsFirstBadOptions bytes k
IsOptionsError bytes _ = ⊥

-- there are kinds, and the bytes stand for options, as many as each other
pub record HaveTypes (found : List (Option Kind)) (bytes : List ℕ) : Type 0 where
  pub counts : length bytes ≡ length found
  pub options' : AreOptions bytes (length bytes)
  pub kinds : AreKinds found (length found)

-- there are as many bytes of options as kinds, and as many columns
abbrev pub HaveLengths : List (Option Kind) → List ℕ → ℕ → Type 0
HaveLengths found options columns = (length options ≡ length found) × (columns ≡ length found)

-- why so many columns have no types and options: the first reason in this order. Memory is asked for once all of them are right
abbrev pub IsTypesError : List (Option Kind) → List ℕ → ℕ → KeysError → Type 0
IsTypesError found options columns WrongLength = (length options ≢ length found) ⊎ (columns ≢ length found)
IsTypesError found options columns (BadOptions k) = HaveLengths found options columns × IsFirstBadOptions options k
IsTypesError found options columns (UnknownKind k) = HaveLengths found options columns × AreOptions options (length options) × IsFirstUnknown found k
IsTypesError found options columns OutOfMemory = HaveLengths found options columns × HaveTypes found options
IsTypesError found options columns _ = ⊥
