-- Worked cases of what fits the columns, of casts to their types, and of literals there, each a theorem.
use Rattle.std.specs.Prelude.{◌≡◌, ℕ, pos, negsuc, true, false, [], ◌∷◌, Some, None, codes, refl}
use Rattle.std.specs.declared.cmp.Ordering.TheVariants.{Less, Greater}
use Rattle.vortex_dtype.specs.TypeTree.{TypeTree, extension_type, integer_type, list_type}
use Rattle.vortex_dtype.specs.declared.nullability.Nullability.TheVariants.{NonNullable, Nullable}
use Rattle.vortex_dtype.specs.declared.ptype.PType.TheVariants.{I16, I32, I64, U8}
use Rattle.vortex_value.specs.Values.Content.{null, whole}
use Rattle.vortex_cells.specs.Cells.{Cell}
use Rattle.logical_types.specs.ShapeExamples.{on_words}
use Rattle.logical_types.specs.Shapes.{place_in}
use Rattle.vortex_filter.specs.declared.operator.CompareOperator.TheVariants.{Eq, Gt, Gte, Lt}
use Rattle.vortex_filter.specs.declared.truth.Truth.TheVariants.{Unknown, True}
use Rattle.vortex_filter.specs.Checking.{comparing, nothing, tests}
use Rattle.vortex_filter.specs.Coercing.{coerced}
use Rattle.vortex_filter.specs.Extensions.{reinterprets}
use Rattle.vortex_filter.specs.Formula.{Formula, both, comparison, constant, either, membership, negation, null_test, range}
use Rattle.vortex_filter.specs.Literals.{null_literal, number_literal, text_literal, number_cell, position_of}
use Rattle.vortex_filter.specs.Positions.{exactly, just_above, lacking}
use Rattle.vortex_filter.specs.Rows.{content_truth}

-- an i64 literal, and an i16 literal as a cast makes it
abbrev long : ℕ → Cell
long n = record { typed = integer_type I64 NonNullable; content = whole (pos n) }

abbrev short : ℕ → Cell
short n = record { typed = integer_type I16 Nullable; content = whole (pos n) }

abbrev no_short : Cell
no_short = record { typed = integer_type I16 Nullable; content = null }

-- tests are counted in reading order: constants are none
first_and_second : tests (both (comparison 0 Eq (long 1)) (negation (either (constant True) (null_test 2)))) ≡ record { column = 0; demand = comparing (long 1 ∷ []) } ∷ record { column = 2; demand = nothing } ∷ []
first_and_second = refl

-- ---- casts

abbrev one_short : Formula → Formula
one_short = coerced (integer_type I16 NonNullable ∷ [])

number_cast : one_short (comparison 0 Lt (long 5)) ≡ comparison 0 Lt (short 5)
number_cast = refl

-- an i16 has only values below 100000, and is never equal to it
below_all : one_short (comparison 0 Lt (long 100000)) ≡ either (negation (null_test 0)) (constant Unknown)
below_all = refl

equal_to_none : one_short (comparison 0 Eq (long 100000)) ≡ both (null_test 0) (constant Unknown)
equal_to_none = refl

-- a u8 has only values above -1
above_all : coerced (integer_type U8 Nullable ∷ []) (comparison 0 Gt (record { typed = integer_type I64 NonNullable; content = whole (negsuc 0) })) ≡ either (negation (null_test 0)) (constant Unknown)
above_all = refl

-- what the type lacks is left out, unless nothing is left
one_left : one_short (membership 0 (long 1 ∷ long 100000 ∷ [])) ≡ membership 0 (short 1 ∷ [])
one_left = refl

none_left : one_short (membership 0 (long 100000 ∷ [])) ≡ both (null_test 0) (constant Unknown)
none_left = refl

of_none : one_short (membership 0 []) ≡ membership 0 []
of_none = refl

-- a range with an end that the type lacks is two comparisons
one_end : one_short (range 0 (long 1) (long 100000)) ≡ both (comparison 0 Gte (short 1)) (either (negation (null_test 0)) (constant Unknown))
one_end = refl

-- by contents an i16 compares with an i64, and a null with nothing
by_contents : content_truth (comparison 0 Lt (long 100000)) (short 7 ∷ []) ≡ True
by_contents = refl

null_by_contents : content_truth (comparison 0 Lt (long 100000)) (no_short ∷ []) ≡ Unknown
null_by_contents = refl

-- ---- extensions

abbrev float_column : TypeTree
float_column = extension_type (codes "doqallin.f64") [] (integer_type I64 NonNullable)

-- 10 is not the float that 10 stores, nor is that float 10; a null is the null of each type
storage_for_value : reinterprets (integer_type I64 NonNullable) float_column (whole (pos 10)) ≡ true
storage_for_value = refl

value_for_storage : reinterprets float_column (integer_type I64 NonNullable) (whole (pos 10)) ≡ true
value_for_storage = refl

null_of_float : reinterprets (integer_type I64 Nullable) float_column null ≡ false
null_of_float = refl

-- nor in a list of them
storages_in_list : reinterprets (list_type (integer_type I64 NonNullable) NonNullable) (list_type float_column NonNullable) (whole (pos 0)) ≡ true
storages_in_list = refl

-- ---- literals as they are written

-- a number of the type; 100000, which each i16 is below; and -1, which each u8 is above
number_there : position_of (integer_type I16 Nullable) (number_literal (codes "5")) ≡ Some (exactly (number_cell I16 (pos 5)))
unfolding place_in
number_there = refl

number_above : position_of (integer_type I16 Nullable) (number_literal (codes "100000")) ≡ Some (lacking Less)
unfolding place_in
number_above = refl

number_below : position_of (integer_type U8 NonNullable) (number_literal (codes "-1")) ≡ Some (lacking Greater)
unfolding place_in
number_below = refl

-- between two integers, and between the greatest and what is no u8
between_integers : position_of (integer_type U8 NonNullable) (number_literal (codes "10.5")) ≡ Some (just_above (number_cell U8 (pos 10)))
unfolding place_in
between_integers = refl

above_greatest : position_of (integer_type U8 NonNullable) (number_literal (codes "255.5")) ≡ Some (lacking Less)
unfolding place_in
above_greatest = refl

-- a null is of any type, made nullable; a string in a column of numbers is its number, if it writes one
null_there : position_of (integer_type I16 NonNullable) null_literal ≡ Some (exactly no_short)
null_there = refl

text_of_number : position_of (integer_type I16 NonNullable) (text_literal (codes "5")) ≡ Some (exactly (number_cell I16 (pos 5)))
unfolding place_in
text_of_number = refl

text_of_none : position_of (integer_type I16 NonNullable) (text_literal (codes "five")) ≡ None
unfolding place_in
text_of_none = refl

-- ---- decimals of ten digits, two of them behind the point

abbrev prices : TypeTree
prices = extension_type (codes "doqallin.decimal") (10 ∷ 2 ∷ []) (integer_type I64 Nullable)

abbrev cents : ℕ → Cell
cents n = record { typed = prices; content = whole (pos n) }

price_there : position_of prices (number_literal (codes "12.30")) ≡ Some (exactly (cents 1230))
unfolding place_in
price_there = refl

whole_price : position_of prices (number_literal (codes "10")) ≡ Some (exactly (cents 1000))
unfolding place_in
whole_price = refl

price_between : position_of prices (number_literal (codes "12.345")) ≡ Some (just_above (cents 1234))
unfolding place_in
price_between = refl

price_in_quotes : position_of prices (text_literal (codes "12.30")) ≡ Some (exactly (cents 1230))
unfolding place_in
price_in_quotes = refl

above_prices : position_of prices (number_literal (codes "100000000")) ≡ Some (lacking Less)
unfolding place_in
above_prices = refl

-- ---- days and timestamps

abbrev days_column : TypeTree
days_column = extension_type (codes "vortex.date") (4 ∷ []) (integer_type I32 Nullable)

abbrev millis_column : TypeTree
millis_column = extension_type (codes "vortex.timestamp") (2 ∷ 0 ∷ 0 ∷ []) (integer_type I64 Nullable)

abbrev zoned_column : TypeTree
zoned_column = extension_type (codes "vortex.timestamp") (2 ∷ 3 ∷ 0 ∷ codes "CET") (integer_type I64 Nullable)

-- a number is no day
no_day : position_of days_column (number_literal (codes "2026")) ≡ None
no_day = refl

a_day : position_of days_column (text_literal (codes "2026-03-01")) ≡ Some (exactly (record { typed = days_column; content = whole (pos 20513) }))
unfolding on_words
a_day = refl

-- a date alone is a day, and its midnight in a column of timestamps
midnight : position_of millis_column (text_literal (codes "2026-03-01")) ≡ Some (exactly (record { typed = millis_column; content = whole (pos 1772323200000) }))
unfolding on_words
midnight = refl

-- in a column with a zone a time, or a date alone, without `Z` and offset is in UTC
midnight_in_utc : position_of zoned_column (text_literal (codes "2026-03-01")) ≡ Some (exactly (record { typed = zoned_column; content = whole (pos 1772323200000) }))
unfolding on_words
midnight_in_utc = refl

time_in_utc : position_of zoned_column (text_literal (codes "2026-03-01 14:00")) ≡ Some (exactly (record { typed = zoned_column; content = whole (pos 1772373600000) }))
unfolding on_words
time_in_utc = refl

with_zone : position_of zoned_column (text_literal (codes "2026-03-01T14:00:00Z")) ≡ Some (exactly (record { typed = zoned_column; content = whole (pos 1772373600000) }))
unfolding on_words
with_zone = refl

-- a time with a zone is none of a column without one
no_instant : position_of millis_column (text_literal (codes "2026-03-01T14:00:00Z")) ≡ None
unfolding on_words
no_instant = refl
