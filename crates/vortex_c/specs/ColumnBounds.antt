-- A column: the bytes of its values one after another, and their offsets. Value k goes from offset k to the next one.
use Rattle.std.specs.Prelude.{◌≡◌, ℕ, ◌+◌, ◌<◌, ◌≤◌, ◌⊎◌, IsUtf8, List, length, slice_index, slice_range, Bool, Option, Some, None, MatchOption, if◌then◌else◌}
use Rattle.vortex_bounds.specs.Strings.{NotAbove}
use Rattle.vortex_c.specs.Bounds.{IsWholeOrBest, HasNone}

-- the column has a value k
abbrev pub HasValue : List ℕ → ℕ → Type 0
HasValue offsets k = k + 1 < length offsets

-- value k
abbrev pub value_at : List ℕ → List ℕ → ℕ → List ℕ
value_at bytes offsets k = slice_range bytes (slice_index offsets k) (slice_index offsets (k + 1))

-- each value ends where it begins or later, and no later than the bytes do
abbrev pub IsColumn : List ℕ → List ℕ → Type 0
IsColumn bytes offsets = (k : ℕ) → HasValue offsets k
    → (slice_index offsets k ≤ slice_index offsets (k + 1)) × (slice_index offsets (k + 1) ≤ length bytes)

-- no value is below value k
abbrev pub IsLeastAt : List ℕ → List ℕ → ℕ → Type 0
IsLeastAt bytes offsets k = HasValue offsets k
    × ((j : ℕ) → HasValue offsets j → NotAbove (value_at bytes offsets k) (value_at bytes offsets j))

-- no value is above value k
abbrev pub IsGreatestAt : List ℕ → List ℕ → ℕ → Type 0
IsGreatestAt bytes offsets k = HasValue offsets k
    × ((j : ℕ) → HasValue offsets j → NotAbove (value_at bytes offsets j) (value_at bytes offsets k))

-- each least and each greatest value is UTF-8, whole
abbrev pub AreEndsText : List ℕ → List ℕ → Type 0
AreEndsText bytes offsets = (k : ℕ) → IsLeastAt bytes offsets k ⊎ IsGreatestAt bytes offsets k → IsUtf8 (value_at bytes offsets k)

-- a least or a greatest value is not UTF-8
abbrev pub HasEndNoText : List ℕ → List ℕ → Type 0
HasEndNoText bytes offsets = (k : ℕ) × (IsLeastAt bytes offsets k ⊎ IsGreatestAt bytes offsets k) × ¬ (IsUtf8 (value_at bytes offsets k))

-- a least and a greatest value, and their bounds at n bytes: no upper one if the greatest value has none
pub record AreColumnBounds (BestLower BestUpper : List ℕ → ℕ → List ℕ → Type 0) (HasNoUpper : List ℕ → ℕ → Type 0) (bytes offsets : List ℕ) (n : ℕ) (lower : List ℕ) (upper : Option (List ℕ)) : Type 0 where
  pub least : ℕ
  pub greatest : ℕ
  pub is_least : IsLeastAt bytes offsets least
  pub is_greatest : IsGreatestAt bytes offsets greatest
  pub is_lower : IsWholeOrBest BestLower (value_at bytes offsets least) n lower
  pub is_upper : MatchOption upper (HasNone HasNoUpper (value_at bytes offsets greatest) n) (IsWholeOrBest BestUpper (value_at bytes offsets greatest) n)

-- the bytes, if there are some
abbrev pub some_where : Bool → List ℕ → Option (List ℕ)
some_where there bytes = if there then Some bytes else None

-- some such bounds have these lengths
abbrev pub HasColumnBounds : (List ℕ → ℕ → List ℕ → Type 0) → (List ℕ → ℕ → List ℕ → Type 0) → (List ℕ → ℕ → Type 0) → List ℕ → List ℕ → ℕ → ℕ → ℕ → Bool → Type 0
HasColumnBounds BestLower BestUpper HasNoUpper bytes offsets n lower_length upper_length has_upper =
    (lower upper : List ℕ) × AreColumnBounds BestLower BestUpper HasNoUpper bytes offsets n lower (some_where has_upper upper)
    × (length lower ≡ lower_length) × (length upper ≡ upper_length)
