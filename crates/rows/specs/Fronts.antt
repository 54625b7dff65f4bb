-- The front of a line, before its first space.
use Rattle.std.specs.Prelude.{ℕ, List, ◌∷◌, ◌≡◌, ◌≤◌, ◌<◌, true, false, Option, None, Some, length, slice_index, take}
use Rattle.std.specs.Char.{is_ascii_digit}
use Rattle.std.specs.Str.Parse.{digits_value}
use Rattle.vortex_dtype.specs.declared.ptype.PType.{PType}
use Rattle.rows.specs.Grammar.{all_digits, ptype_named}
use Rattle.rows.specs.Lines.{words_of}

-- the line has several words; the first names x, and rest is what follows the space after it
pub record FirstSays {A : Type 0} (named : List ℕ → Option A) (text : List ℕ) (x : A) (rest : List ℕ) : Type 0 where
  pub word : List ℕ
  pub first : words_of text ≡ word ∷ words_of rest
  pub says : named word ≡ Some x

-- the line has one word, or its first word names nothing
abbrev pub FirstSaysNone : {A : Type 0} → (List ℕ → Option A) → List ℕ → Type 0
FirstSaysNone named text = (w v : List ℕ) (ws : List (List ℕ)) → words_of text ≡ w ∷ v ∷ ws → named w ≡ None

-- the first k bytes are digits and represent n; another digit follows only if k is the most that are read
pub record LeadingDigits (most : ℕ) (text : List ℕ) (n k : ℕ) : Type 0 where
  pub within : k ≤ length text
  pub few : k ≤ most
  pub digits : all_digits (take k text) ≡ true
  pub number : n ≡ digits_value 10 (take k text)
  pub ended : k < most → k < length text → is_ascii_digit (slice_index text k) ≡ false

-- if the line has several words and the first names a PType, that word ends at this offset
abbrev pub IsNameEnd : List ℕ → ℕ → Type 0
IsNameEnd text end = (w v : List ℕ) (ws : List (List ℕ)) (k : PType) → words_of text ≡ w ∷ v ∷ ws → ptype_named w ≡ Some k → length w ≡ end
