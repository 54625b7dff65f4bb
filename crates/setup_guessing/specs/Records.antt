-- The first records of a file, of which the beginning is at hand.
use Rattle.std.specs.Prelude.{◌≡◌, ◌≢◌, ◌⊎◌, ◌≤◌, ◌-◌, ℕ, List, [], ◌∷◌, ◌++◌, Bool, false, drop, length, min, take, if◌then◌else◌}
use Rattle.csv_records.specs.Records.{records_of}

-- a text begins with so many records; with fewer only if it has no more, or if its last one alone is left, which may be cut
-- where the file goes on. There the records are those with which the file begins, whatever follows
pub record IsFront (delimiter count : ℕ) (is_all : Bool) (text front rest : List ℕ) : Type 0 where
  pub parts : text ≡ front ++ rest
  pub records : records_of delimiter text ≡ records_of delimiter front ++ records_of delimiter rest
  pub many : length (records_of delimiter front) ≡ min count (length (records_of delimiter text) - (if is_all then 0 else 1))
  pub certain : is_all ≡ false → (more : List ℕ) → records_of delimiter (text ++ more) ≡ records_of delimiter front ++ records_of delimiter (rest ++ more)

-- the first record has so many bytes, and it is not cut
pub record IsNext (delimiter : ℕ) (is_all : Bool) (text : List ℕ) (n : ℕ) : Type 0 where
  pub within : n ≤ length text
  pub cut : records_of delimiter text ≡ take n text ∷ records_of delimiter (drop n text)
  pub some : text ≢ []
  pub whole : is_all ≡ false → drop n text ≢ []

-- there is no record, or only one that may be cut
abbrev pub HasNoNext : ℕ → Bool → List ℕ → Type 0
HasNoNext delimiter is_all text = (text ≡ []) ⊎ ((is_all ≡ false) × (records_of delimiter text ≡ text ∷ []))
