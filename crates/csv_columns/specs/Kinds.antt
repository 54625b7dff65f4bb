-- The kind that is guessed for the words of a column.
use Rattle.std.specs.Prelude.{◌≡◌, ◌==◌, ◌&&◌, ◌||◌, ◌+◌, ℕ, max, Bool, true, false, not, List, [], ◌∷◌, Option, Some, None, drop, is_some, length, nat_le, nat_lt, option_map, if◌then◌else◌}
use Rattle.std.specs.Char.{is_ascii_digit}
use Rattle.std.specs.Int.{is_in_range}
use Rattle.std.specs.List.{after_first, before_first, find, list_all}
use Rattle.std.specs.Option.{option_and_then, option_or}
use Rattle.std.specs.Str.Parse.{signed_digits_value, starts_with_minus}
use Rattle.logical_types.specs.Shapes.{Shape, days, decimals, float64, shape_of, storage_in, timestamps}
use Rattle.logical_types.specs.declared.logical.LogicalType.{LogicalType}
use Rattle.logical_types.specs.declared.times.TimeUnit.TheVariants.{Microseconds, Nanoseconds}
use Rattle.record_rows.specs.declared.schema.Kind.{Kind}
use Rattle.record_rows.specs.declared.schema.Kind.TheVariants as kinds
use Rattle.vortex_dtype.specs.declared.ptype.PType.{PType}
use Rattle.vortex_dtype.specs.declared.ptype.PType.TheVariants.{I64, U64}
use Rattle.vortex_pvalue.specs.Numbers.{in_range}
use Rattle.csv_columns.specs.declared.kinds.Digits.{Digits}
use Rattle.csv_columns.specs.declared.kinds.Guess.{Guess}
use Rattle.csv_columns.specs.declared.kinds.Timestamps.{Timestamps}

-- ---- words of numbers

-- a word without its minus, if it has one
abbrev pub size_of : List ℕ → List ℕ
size_of word = if starts_with_minus word then drop 1 word else word

-- what stands before the point, or all where there is none; and what stands behind it
abbrev pub whole_of : List ℕ → List ℕ
whole_of size = before_first (λ b. b == 46) size

abbrev pub fraction_of : List ℕ → List ℕ
fraction_of size = after_first (λ b. b == 46) size

abbrev pub are_digits : List ℕ → Bool
are_digits text = list_all is_ascii_digit text

-- whether a text is digits, and begins with a zero only if that is all
abbrev pub is_whole : List ℕ → Bool
is_whole [] = false
is_whole (b ∷ []) = is_ascii_digit b
is_whole (b ∷ c ∷ rest) = is_in_range 49 57 b && are_digits (b ∷ c ∷ rest)

-- whether a text is such digits, and perhaps a point and digits
abbrev pub is_size : List ℕ → Bool
is_size size = is_whole (whole_of size) && (are_digits (fraction_of size) && ((length (whole_of size) == length size) || nat_lt 0 (length (fraction_of size))))

abbrev pub is_zero : List ℕ → Bool
is_zero size = list_all (λ b. (b == 48) || (b == 46)) size

-- whether a word is a number as such numbers are printed, but for zeros at its end: so no two of them without a point are one number
abbrev pub is_plain : List ℕ → Bool
is_plain word = is_size (size_of word) && not (starts_with_minus word && is_zero (size_of word))

-- whether a word is such a number without a point, and one of the type
abbrev pub is_integer : PType → List ℕ → Bool
is_integer ptype word = is_plain word && (are_digits (size_of word) && in_range ptype (signed_digits_value 10 word))

-- how many digits a number has before the point, and behind it
abbrev pub whole_count : List ℕ → ℕ
whole_count word = length (whole_of (size_of word))

abbrev pub place_count : List ℕ → ℕ
place_count word = length (fraction_of (size_of word))

-- ---- what fits each word

-- the most of a count, over these words
abbrev pub most : (List ℕ → ℕ) → List (List ℕ) → ℕ
most count [] = 0
most count (w ∷ ws) = max (count w) (most count ws)

-- so many digits hold each of these words, if each is such a number
abbrev pub digits_of : List (List ℕ) → Option Digits
digits_of words = if list_all is_plain words then Some (record { whole = max 1 (most whole_count words); places = most place_count words }) else None

-- how many digits the values of a type of decimals have, so that it holds so many
abbrev pub precision_for : ℕ → Option ℕ
precision_for count = if nat_le count 18 then Some 18 else if nat_le count 38 then Some 38 else None

abbrev pub decimals_for : Digits → Option Shape
decimals_for d = option_map (λ precision. decimals precision d.places) (precision_for (d.whole + d.places))

-- whether each word writes a value of the type
abbrev pub all_write : List (List ℕ) → Shape → Bool
all_write words s = list_all (λ word. is_some (storage_in s word)) words

abbrev pub timestamp_types : List Shape
timestamp_types = timestamps Microseconds false ∷ timestamps Microseconds true ∷ timestamps Nanoseconds false ∷ timestamps Nanoseconds true ∷ []

-- the first logical type whose values all words write: the decimals with room for each digit, days, or timestamps
abbrev pub logical_for : List (List ℕ) → Option Shape
logical_for words = option_or (option_and_then decimals_for (digits_of words)) (find (all_write words) (days ∷ timestamp_types))

-- ---- the guess

pub data Guessed : Type 0 where
  integers : PType → Guessed
  logical : Shape → Guessed
  texts : Guessed

abbrev pub logical_or_texts : Option Shape → Guessed
logical_or_texts (Some s) = logical s
logical_or_texts None = texts

-- what is guessed for words: the first of these that fits each, and texts if none does, or if there is no word
abbrev pub guess_of : List (List ℕ) → Guessed
guess_of words =
    if length words == 0 then texts
    else if list_all (is_integer I64) words then integers I64
    else if list_all (is_integer U64) words then integers U64
    else logical_or_texts (logical_for words)

-- the kind is this guess
abbrev pub IsGuessed : Guessed → Kind → Type 0
IsGuessed (integers ptype) kind = kind ≡ kinds.Integer ptype
IsGuessed (logical s) kind = (l : LogicalType) × (kind ≡ kinds.Logical l) × (shape_of l ≡ s)
IsGuessed texts kind = kind ≡ kinds.Utf8

-- whether words are numbers of any spelling, and are guessed to be texts all the same
abbrev pub is_texts : Guessed → Bool
is_texts texts = true
is_texts (integers ptype) = false
is_texts (logical s) = false

abbrev pub are_numbers_as_texts : List (List ℕ) → Bool
are_numbers_as_texts words = (nat_lt 0 (length words) && all_write words float64) && is_texts (guess_of words)

-- ---- what is known of the words so far

-- which timestamps these words are
pub record AreOf (words : List (List ℕ)) (known : Timestamps) : Type 0 where
  pub local : known.local ≡ all_write words (timestamps Microseconds false)
  pub zoned : known.zoned ≡ all_write words (timestamps Microseconds true)
  pub fine_local : known.fine_local ≡ all_write words (timestamps Nanoseconds false)
  pub fine_zoned : known.fine_zoned ≡ all_write words (timestamps Nanoseconds true)

-- the guess has seen just these words
pub record Sees (guess : Guess) (words : List (List ℕ)) : Type 0 where
  pub some : guess.is_seen ≡ nat_lt 0 (length words)
  pub signed : guess.fits_signed ≡ list_all (is_integer I64) words
  pub unsigned : guess.fits_unsigned ≡ list_all (is_integer U64) words
  pub longest : guess.decimals ≡ digits_of words
  pub numbers : guess.are_numbers ≡ all_write words float64
  pub dates : guess.are_dates ≡ all_write words days
  pub moments : AreOf words guess.timestamps
