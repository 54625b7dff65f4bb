-- The values from a least to a greatest one, told apart by their first bytes.
use Rattle.std.specs.Prelude.{◌≡◌, ℕ, zero, suc, ◌+◌, ◌*◌, ◌^◌, ◌<◌, ◌≤◌, ◌⊎◌, List, [], ◌∷◌, length, slice_index, take, drop}
use Rattle.arrow_columns.specs.Statistics.{NotAbove}
use Rattle.arrow_columns.specs.declared.byte_spans.ByteSpan.{ByteSpan}

-- each item is below 256
abbrev pub AreBytes : List ℕ → Type 0
AreBytes bytes = (k : ℕ) → slice_index bytes k < 256

-- the number of the first n bytes, with zeros after the last one
abbrev pub beginning : ℕ → List ℕ → ℕ
beginning zero bytes = 0
beginning (suc n) [] = 0
beginning (suc n) (b ∷ bs) = b * 256 ^ n + beginning n bs

-- two values in order begin with the same words of eight bytes, so many, and these are the numbers of the next eight bytes of each
pub record BeginAlike (low high : List ℕ) (words low_word high_word : ℕ) : Type 0 where
  pub order : NotAbove low high
  pub low_long : 8 * words ≤ length low
  pub high_long : 8 * words ≤ length high
  pub alike : take (8 * words) low ≡ take (8 * words) high
  pub low_next : low_word ≡ beginning 8 (drop (8 * words) low)
  pub high_next : high_word ≡ beginning 8 (drop (8 * words) high)

-- a span says how its two values begin
abbrev pub IsSpan : ByteSpan → Type 0
IsSpan span = BeginAlike span.low.now span.high.now span.words span.low_word span.high_word

-- of a value and the one that was kept, the one that stands in this relation to the other, and its row
abbrev pub Keeps : (List ℕ → List ℕ → Type 0) → List ℕ → List ℕ → List ℕ → ℕ → ℕ → ℕ → Type 0
Keeps R value old new row old_row new_row = (R value old × (new ≡ value) × (new_row ≡ row)) ⊎ (R old value × (new ≡ old) × (new_row ≡ old_row))

-- the span has the value of one more row
pub record Widens (value : List ℕ) (row : ℕ) (old new : ByteSpan) : Type 0 where
  pub least : Keeps NotAbove value old.low.now new.low.now row old.least new.least
  pub greatest : Keeps (λ x y. NotAbove y x) value old.high.now new.high.now row old.greatest new.greatest
