-- What comes after the first byte of the key of a string, and what may come next within a text.
use Rattle.std.specs.Prelude.{◌≡◌, ℕ, zero, suc, ◌<◌, ◌≤◌, ◌==◌, cond, ◌⊎◌, List, [], ◌∷◌, ◌++◌, IsUtf8, get_or}
use Rattle.vortex_row.specs.Held.{AreBytes}
use Rattle.vortex_row.specs.Keys.{escaped}
use Rattle.vortex_row.specs.declared.decode.texts.Next.{Next}
use Rattle.vortex_row.specs.declared.decode.texts.Next.TheVariants.{Character, Escaped, Within}

-- the least and the greatest byte that may follow this first byte of a character
abbrev pub lowest_after : ℕ → ℕ
lowest_after b = cond (b == 224) 160 (cond (b == 240) 144 128)

abbrev pub highest_after : ℕ → ℕ
highest_after b = cond (b == 237) 159 (cond (b == 244) 143 191)

-- these are the bytes that a character still lacks, so many of them and the first from low to high, and then text
abbrev pub Completes : ℕ → ℕ → ℕ → List ℕ → Type 0
Completes zero low high bs = IsUtf8 bs
Completes (suc n) low high [] = ⊥
Completes (suc n) low high (b ∷ bs) = (low ≤ b) × (b ≤ high) × Completes n 128 191 bs

-- the escaped encoding of a string of this kind, and its end
pub record IsEscaped (IsOne : List ℕ → Type 0) (bs : List ℕ) : Type 0 where
  pub string : List ℕ
  pub kind : IsOne string
  pub bytes : AreBytes string
  pub is : bs ≡ escaped string

-- the bytes begin with the escaped encoding of this string, which is one of the kind, and go on with now
pub record HasString (IsOne : List ℕ → Type 0) (string old now : List ℕ) : Type 0 where
  pub kind : IsOne string
  pub bytes : AreBytes string
  pub is : old ≡ escaped string ++ now

-- each byte before the offset is a character of ASCII above 1
abbrev pub AreCharacters : List ℕ → ℕ → Type 0
AreCharacters bs place = (k : ℕ) → k < place → (2 ≤ get_or bs k 0) × (get_or bs k 0 < 128)

-- any string
abbrev pub IsAny : List ℕ → Type 0
IsAny bs = Unit {0}

-- the second byte of two that stand for one, and the rest of an escaped string of this kind
pub record IsHalfEscaped (IsOne : List ℕ → Type 0) (bs : List ℕ) : Type 0 where
  pub second : ℕ
  pub either : (second ≡ 1) ⊎ (second ≡ 2)
  pub more : List ℕ
  pub escaped : IsEscaped IsOne more
  pub is : bs ≡ second ∷ more

-- what may come next in the key of a text
abbrev pub ComesNext : Next → List ℕ → Type 0
ComesNext Character bs = IsEscaped IsUtf8 bs
ComesNext Escaped bs = IsHalfEscaped IsUtf8 bs
ComesNext (Within low high more) bs = IsEscaped (Completes (suc more) low high) bs

-- the range of the next byte is one of bytes, none of which is ever escaped
abbrev pub IsProper : Next → Type 0
IsProper (Within low high more) = (2 ≤ low) × (low ≤ high) × (high < 256)
IsProper _ = Unit {0}
