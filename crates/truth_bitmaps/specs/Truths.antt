-- SQL's truth values as bits: Some true is True, Some false is False, and None is Unknown.
use Rattle.std.specs.Prelude.{◌≡◌, ℕ, ◌+◌, ◌*◌, ◌/◌, ◌%◌, ◌<◌, ◌≤◌, ◌==◌, Bool, false, true, List, Option, None, Some, slice_index, slice_index_or}
use Rattle.std.specs.Int.{bit_at}
use Rattle.truth_bitmaps.specs.declared.words.TruthWord.{TruthWord}

-- ---- truth values

-- False if one of the two is, else Unknown if one is
abbrev pub truth_and : Option Bool → Option Bool → Option Bool
truth_and (Some false) u = Some false
truth_and (Some true) u = u
truth_and None (Some false) = Some false
truth_and None (Some true) = None
truth_and None None = None

-- True if one of the two is, else Unknown if one is
abbrev pub truth_or : Option Bool → Option Bool → Option Bool
truth_or (Some true) u = Some true
truth_or (Some false) u = u
truth_or None (Some true) = Some true
truth_or None (Some false) = None
truth_or None None = None

-- True for False, and False for True; Unknown stays
abbrev pub truth_not : Option Bool → Option Bool
truth_not (Some true) = Some false
truth_not (Some false) = Some true
truth_not None = None

-- Unknown for a null
abbrev pub under_null : Bool → Option Bool → Option Bool
under_null true t = t
under_null false t = None

-- True, and neither False nor Unknown
abbrev pub is_match : Option Bool → Bool
is_match (Some b) = b
is_match None = false

-- ---- bits

-- the bit is set
abbrev pub is_set : ℕ → ℕ → Bool
is_set word bit = bit_at word bit == 1

-- what two bits say: that of True decides
abbrev pub truth_of : Bool → Bool → Option Bool
truth_of true unknown = Some true
truth_of false true = None
truth_of false false = Some false

-- the truth value of a row of a word
abbrev pub truth_in : TruthWord → ℕ → Option Bool
truth_in word row = truth_of (is_set word.is_true row) (is_set word.is_unknown row)

-- 64 rows of which it is False
abbrev pub no_row : TruthWord
no_row = record { is_true = 0; is_unknown = 0 }

-- each row of a word has this truth value
abbrev pub AreRows : Option Bool → TruthWord → Type 0
AreRows truth word = (row : ℕ) → row < 64 → truth_in word row ≡ truth

-- the truth value of a row of words
abbrev pub truth_at : List TruthWord → ℕ → Option Bool
truth_at words row = truth_in (slice_index_or words (row / 64) no_row) (row % 64)

-- how many words so many rows take
abbrev pub word_count : ℕ → ℕ
word_count count = (count + 63) / 64

-- each row below the count has this truth value
abbrev pub AreAll : Option Bool → List TruthWord → ℕ → Type 0
AreAll truth words count = (row : ℕ) → row < count → truth_at words row ≡ truth

-- ---- bytes

-- how many bytes the bits of so many rows take
abbrev pub byte_count : ℕ → ℕ
byte_count count = (count + 7) / 8

-- bit i of bytes is set
abbrev pub bit_in : List ℕ → ℕ → Bool
bit_in bytes i = is_set (slice_index bytes (i / 8)) (i % 8)

-- the bit of each row says whether it matches, and the bits after them are 0
pub record AreMatches (words : List TruthWord) (count : ℕ) (mask : List ℕ) : Type 0 where
  pub rows : (row : ℕ) → row < count → bit_in mask row ≡ is_match (truth_at words row)
  pub zeros : (row : ℕ) → count ≤ row → row < 8 * byte_count count → bit_in mask row ≡ false
