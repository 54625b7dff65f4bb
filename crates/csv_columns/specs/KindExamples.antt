-- Worked cases of the kinds that are guessed, each a theorem.
use Rattle.std.specs.Prelude.{◌≡◌, [], ◌∷◌, true, false, codes, refl}
use Rattle.logical_types.specs.ShapeExamples.{on_words}
use Rattle.logical_types.specs.Shapes.{days, decimals, timestamps}
use Rattle.logical_types.specs.declared.times.TimeUnit.TheVariants.{Microseconds}
use Rattle.vortex_dtype.specs.declared.ptype.PType.TheVariants.{I64, U64}
use Rattle.csv_columns.specs.Kinds.{guess_of, integers, is_plain, logical, texts}

-- ---- numbers

plain_number : is_plain (codes "-12.50") ≡ true
plain_number = refl

-- a zero with a minus, zeros and a sign in front, a point without digits, an exponent
minus_zero : is_plain (codes "-0.0") ≡ false
minus_zero = refl

zero_in_front : is_plain (codes "007") ≡ false
zero_in_front = refl

sign_in_front : is_plain (codes "+7") ≡ false
sign_in_front = refl

bare_point : is_plain (codes "7.") ≡ false
bare_point = refl

exponent : is_plain (codes "1e3") ≡ false
exponent = refl

-- ---- kinds

no_words : guess_of [] ≡ texts
no_words = refl

signed : guess_of (codes "0" ∷ codes "-20" ∷ codes "9223372036854775807" ∷ []) ≡ integers I64
signed = refl

unsigned : guess_of (codes "0" ∷ codes "9223372036854775808" ∷ []) ≡ integers U64
unsigned = refl

-- no type of integers has both
both_ends : guess_of (codes "-1" ∷ codes "9223372036854775808" ∷ []) ≡ logical (decimals 38 0)
both_ends = refl

prices : guess_of (codes "12.5" ∷ codes "-0.25" ∷ codes "3" ∷ []) ≡ logical (decimals 18 2)
prices = refl

-- 17 digits before a point and 2 behind one are 19, though no number has so many
wide : guess_of (codes "12345678901234567" ∷ codes "0.25" ∷ []) ≡ logical (decimals 38 2)
wide = refl

too_wide : guess_of (codes "123456789012345678901234567890123456789" ∷ []) ≡ texts
unfolding on_words
too_wide = refl

spelled : guess_of (codes "7" ∷ codes "007" ∷ []) ≡ texts
unfolding on_words
spelled = refl

dates : guess_of (codes "2026-03-01" ∷ codes "1969-12-31" ∷ []) ≡ logical days
unfolding on_words
dates = refl

-- a date is the midnight that it begins with, beside a date with a time
moments : guess_of (codes "2026-03-01" ∷ codes "2026-03-01 14:00" ∷ []) ≡ logical (timestamps Microseconds false)
unfolding on_words
moments = refl

moments_of_zone : guess_of (codes "2026-03-01T15:00:00Z" ∷ []) ≡ logical (timestamps Microseconds true)
unfolding on_words
moments_of_zone = refl
