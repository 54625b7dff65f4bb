-- Worked cases of the definitions, each a theorem.
use Rattle.std.specs.Prelude.{◌≡◌, ⊤, ℕ, pos, false, true, List, [], ◌∷◌, codes, map, refl}
use Rattle.std.specs.Char.{encode_utf8}
use Rattle.std.specs.Str.{chars, is_utf8}
use Rattle.std.specs.declared.cmp.Ordering.TheVariants.{Equal}
use Rattle.like_patterns.specs.declared.case.Case.TheVariants.{Sensitive, Insensitive}
use Rattle.like_patterns.specs.Patterns.{Part, any_character, any_string, literal, matches}
use Rattle.vortex_dtype.specs.TypeTree.{binary_type, integer_type, utf8_type}
use Rattle.vortex_dtype.specs.declared.nullability.Nullability.TheVariants.{NonNullable, Nullable}
use Rattle.vortex_dtype.specs.declared.ptype.PType.TheVariants.{I32}
use Rattle.vortex_value.specs.Values.Content.{null, string, text, whole}
use Rattle.vortex_cells.specs.Cells.{Cell}
use Rattle.vortex_filter.specs.declared.operator.CompareOperator.TheVariants.{Eq, NotEq, Gt, Gte, Lt, Lte}
use Rattle.vortex_filter.specs.declared.truth.Truth.TheVariants.{False, Unknown, True}
use Rattle.vortex_filter.specs.Formula.{comparison, is_match, membership, negation, null_test, pattern_test, prefix_test, range, truth}
use Rattle.vortex_filter.specs.Operators.{holds}
use Rattle.vortex_filter.specs.Truths.{truth_and, truth_not, truth_or}

-- ---- truth values and operators

-- SQL's tables: Unknown and False is False, Unknown and True is Unknown, Unknown or True is True
unknown_and_false : truth_and Unknown False ≡ False
unknown_and_false = refl

unknown_and_true : truth_and Unknown True ≡ Unknown
unknown_and_true = refl

unknown_or_true : truth_or Unknown True ≡ True
unknown_or_true = refl

unknown_or_false : truth_or Unknown False ≡ Unknown
unknown_or_false = refl

not_unknown : truth_not Unknown ≡ Unknown
not_unknown = refl

-- equal values: `>=` and `<=` hold, `>` and `<>` do not
from_at_equal : holds Gte Equal ≡ true
from_at_equal = refl

to_at_equal : holds Lte Equal ≡ true
to_at_equal = refl

above_at_equal : holds Gt Equal ≡ false
above_at_equal = refl

other_at_equal : holds NotEq Equal ≡ false
other_at_equal = refl

-- ---- truth on a row

-- an i32, the null among them, a string, bytes
abbrev number : ℕ → Cell
number n = record { typed = integer_type I32 Nullable; content = whole (pos n) }

abbrev no_number : Cell
no_number = record { typed = integer_type I32 Nullable; content = null }

abbrev word : List ℕ → Cell
word bs = record { typed = utf8_type NonNullable; content = text bs }

abbrev bytes : List ℕ → Cell
bytes bs = record { typed = binary_type NonNullable; content = string bs }

-- 4 < 5, and not 5 < 5
below : truth (comparison 0 Lt (number 5)) (number 4 ∷ []) ≡ True
below = refl

not_below_itself : truth (comparison 0 Lt (number 5)) (number 5 ∷ []) ≡ False
not_below_itself = refl

-- a null is not known to be other than 5, and its negation is no better known
null_compared : truth (comparison 0 NotEq (number 5)) (no_number ∷ []) ≡ Unknown
null_compared = refl

null_compared_not : truth (negation (comparison 0 Eq (number 5))) (no_number ∷ []) ≡ Unknown
null_compared_not = refl

-- so is all that is compared with a null, or with a literal of another type
compared_with_null : truth (comparison 0 Eq no_number) (no_number ∷ []) ≡ Unknown
compared_with_null = refl

compared_with_word : truth (comparison 0 NotEq (word [])) (number 5 ∷ []) ≡ Unknown
compared_with_word = refl

-- a row that ends before the column is null there
null_past_the_end : truth (null_test 1) [] ≡ True
null_past_the_end = refl

-- and a test that it is not null fails there
not_null_past_the_end : truth (negation (null_test 1)) [] ≡ False
not_null_past_the_end = refl

-- nothing is one of no literals, not even a null
among_none : truth (membership 0 []) (no_number ∷ []) ≡ False
among_none = refl

-- a null literal leaves open whether a cell is among the others, unless it is
perhaps_among : truth (membership 0 (number 1 ∷ no_number ∷ [])) (number 2 ∷ []) ≡ Unknown
perhaps_among = refl

among : truth (membership 0 (no_number ∷ number 2 ∷ [])) (number 2 ∷ []) ≡ True
among = refl

-- a range has both of its ends
at_upper_end : truth (range 0 (number 3) (number 5)) (number 5 ∷ []) ≡ True
at_upper_end = refl

past_upper_end : truth (range 0 (number 3) (number 5)) (number 6 ∷ []) ≡ False
past_upper_end = refl

-- below the lower end it is False, whatever the upper one is
below_lower_end : truth (range 0 (number 3) no_number) (number 2 ∷ []) ≡ False
below_lower_end = refl

-- "abc" begins with "ab" and with the empty string, and not with "b" or with "abcd"
begins : truth (prefix_test 0 (word (97 ∷ 98 ∷ []))) (word (97 ∷ 98 ∷ 99 ∷ []) ∷ []) ≡ True
begins = refl

begins_with_nothing : truth (prefix_test 0 (word [])) (word (97 ∷ 98 ∷ 99 ∷ []) ∷ []) ≡ True
begins_with_nothing = refl

begins_otherwise : truth (prefix_test 0 (word (98 ∷ []))) (word (97 ∷ 98 ∷ 99 ∷ []) ∷ []) ≡ False
begins_otherwise = refl

too_short_to_begin : truth (prefix_test 0 (word (97 ∷ 98 ∷ 99 ∷ 100 ∷ []))) (word (97 ∷ 98 ∷ 99 ∷ []) ∷ []) ≡ False
too_short_to_begin = refl

-- bytes do not begin with a string
bytes_and_string : truth (prefix_test 0 (word [])) (bytes [] ∷ []) ≡ Unknown
bytes_and_string = refl

-- ---- patterns

-- what the proofs compute by
unfoldable on_strings : ⊤
unfolding chars encode_utf8 is_utf8 matches
on_strings = tt

abbrev no_word : Cell
no_word = record { typed = utf8_type Nullable; content = null }

-- 'a%c', 'a_c', '%c' and '%b%'
abbrev a_any_c : List Part
a_any_c = literal 97 ∷ any_string ∷ literal 99 ∷ []

abbrev a_one_c : List Part
a_one_c = literal 97 ∷ any_character ∷ literal 99 ∷ []

abbrev any_c : List Part
any_c = any_string ∷ literal 99 ∷ []

abbrev some_b : List Part
some_b = any_string ∷ literal 98 ∷ any_string ∷ []

-- "aéc", whose é has two bytes
abbrev a_acute_c : List ℕ
a_acute_c = 97 ∷ 195 ∷ 169 ∷ 99 ∷ []

like_any_string : truth (pattern_test 0 Sensitive a_any_c) (word (codes "abc") ∷ []) ≡ True
unfolding on_strings
like_any_string = refl

like_one_character : truth (pattern_test 0 Sensitive a_one_c) (word a_acute_c ∷ []) ≡ True
unfolding on_strings
like_one_character = refl

like_otherwise : truth (pattern_test 0 Sensitive a_one_c) (word (codes "abbc") ∷ []) ≡ False
unfolding on_strings
like_otherwise = refl

-- '%!%' with the escape '!': what ends with a '%'
like_escaped : truth (pattern_test 0 Sensitive (any_string ∷ literal 37 ∷ [])) (word (codes "50%") ∷ []) ≡ True
unfolding on_strings
like_escaped = refl

-- a null is not known to match, nor not to
null_like : truth (negation (pattern_test 0 Sensitive any_c)) (no_word ∷ []) ≡ Unknown
null_like = refl

past_the_end_like : truth (pattern_test 1 Sensitive any_c) [] ≡ Unknown
past_the_end_like = refl

-- nor bytes, which are no string
bytes_like : truth (pattern_test 0 Sensitive any_c) (bytes (codes "abc") ∷ []) ≡ Unknown
bytes_like = refl

-- without case "ABC" matches 'a%c'; É is no letter of ASCII, so its case counts
like_without_case : truth (pattern_test 0 Insensitive a_any_c) (word (codes "ABC") ∷ []) ≡ True
unfolding on_strings
like_without_case = refl

like_with_case : truth (pattern_test 0 Sensitive a_any_c) (word (codes "ABC") ∷ []) ≡ False
unfolding on_strings
like_with_case = refl

acute_without_case : truth (pattern_test 0 Insensitive (literal 201 ∷ any_string ∷ [])) (word (195 ∷ 169 ∷ []) ∷ []) ≡ False
unfolding on_strings
acute_without_case = refl

-- what is no UTF-8 matches nothing
no_utf8_like : truth (pattern_test 0 Sensitive (any_string ∷ [])) (word (255 ∷ []) ∷ []) ≡ False
unfolding on_strings
no_utf8_like = refl

-- the rows of "abc", a null, "ac" and "b" that match '%b%'
matching_rows : map (is_match (pattern_test 0 Sensitive some_b)) ((word (codes "abc") ∷ []) ∷ (no_word ∷ []) ∷ (word (codes "ac") ∷ []) ∷ (word (codes "b") ∷ []) ∷ []) ≡ true ∷ false ∷ false ∷ true ∷ []
unfolding on_strings
matching_rows = refl
