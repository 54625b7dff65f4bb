-- Worked examples: outcomes on zones, searches, and what is left of a filter.
use Rattle.std.specs.Prelude.{◌≡◌, ℕ, pos, false, true, List, [], ◌∷◌, Option, Some, refl}
use Rattle.like_patterns.specs.declared.case.Case.TheVariants.{Sensitive, Insensitive}
use Rattle.like_patterns.specs.Patterns.{any_string, literal}
use Rattle.vortex_dtype.specs.TypeTree.{binary_type, integer_type, utf8_type}
use Rattle.vortex_dtype.specs.declared.nullability.Nullability.TheVariants.{NonNullable, Nullable}
use Rattle.vortex_dtype.specs.declared.ptype.PType.TheVariants.{I16, I32}
use Rattle.vortex_value.specs.Values.Content.{null, string, text, whole}
use Rattle.vortex_cells.specs.Cells.{Cell}
use Rattle.vortex_statistics.specs.Statistics.{Known, KnownBound}
use Rattle.vortex_filter.specs.declared.operator.CompareOperator.TheVariants.{Eq, NotEq, Gt, Gte, Lt}
use Rattle.vortex_filter.specs.declared.truth.Truth.TheVariants.{False, Unknown, True}
use Rattle.vortex_filter.specs.Formula.{both, comparison, constant, either, membership, negation, null_test, pattern_test, prefix_test, range}
use Rattle.filter_pruning.specs.declared.outcomes.Outcomes.{Outcomes}
use Rattle.filter_pruning.specs.OutcomeSets.{any, is_only_true, only, outcomes_and, outcomes_not}
use Rattle.filter_pruning.specs.Outcomes.{outcomes}
use Rattle.filter_pruning.specs.Residual.{residual, size}
use Rattle.filter_pruning.specs.Searching.{taken_of}

-- an i32, the null among them, a string, bytes
abbrev number : ℕ → Cell
number n = record { typed = integer_type I32 Nullable; content = whole (pos n) }

abbrev no_number : Cell
no_number = record { typed = integer_type I32 Nullable; content = null }

abbrev word : List ℕ → Cell
word bs = record { typed = utf8_type NonNullable; content = text bs }

abbrev bytes : List ℕ → Cell
bytes bs = record { typed = binary_type NonNullable; content = string bs }

-- ---- outcomes

abbrev exactly : Cell → Option KnownBound
exactly x = Some (record { value = x; is_exact = true })

-- three values from 2 to 5, and perhaps a null
abbrev from_two_to_five : Known
from_two_to_five = record { row_count = 3; null_count = Some 0; lower = exactly (number 2); upper = exactly (number 5) }

abbrev with_a_null : Known
with_a_null = record { row_count = 4; null_count = Some 1; lower = exactly (number 2); upper = exactly (number 5) }

-- what is False or Unknown
abbrev not_true : Outcomes
not_true = record { may_be_false = true; may_be_unknown = true; may_be_true = false }

abbrev false_or_true : Outcomes
false_or_true = record { may_be_false = true; may_be_unknown = false; may_be_true = true }

-- none is below 2, and one may be above 2
none_below : outcomes (comparison 0 Lt (number 2)) (from_two_to_five ∷ []) ≡ only False
none_below = refl

some_above : outcomes (comparison 0 Gt (number 2)) (from_two_to_five ∷ []) ≡ false_or_true
some_above = refl

-- each is from 2 on, and the nulls are Unknown
each_from : outcomes (comparison 0 Gte (number 2)) (from_two_to_five ∷ []) ≡ only True
each_from = refl

none_below_or_null : outcomes (comparison 0 Lt (number 2)) (with_a_null ∷ []) ≡ not_true
none_below_or_null = refl

-- a literal of another type compares with none
other_type : outcomes (comparison 0 NotEq (word [])) (from_two_to_five ∷ []) ≡ only Unknown
other_type = refl

-- nothing is known of a column without statistics, but that a comparison with a null is Unknown, and a test for null is not
nothing_known : outcomes (comparison 1 Eq (number 2)) (from_two_to_five ∷ []) ≡ any
nothing_known = refl

null_known : outcomes (comparison 1 Eq no_number) (from_two_to_five ∷ []) ≡ only Unknown
null_known = refl

test_known : outcomes (null_test 1) (from_two_to_five ∷ []) ≡ false_or_true
test_known = refl

-- a range that has all values, and one past them
range_of_all : outcomes (range 0 (number 1) (number 5)) (from_two_to_five ∷ []) ≡ only True
range_of_all = refl

range_past_all : outcomes (range 0 (number 6) (number 9)) (from_two_to_five ∷ []) ≡ only False
range_past_all = refl

-- literals that are all past the values
members_past_all : outcomes (membership 0 (number 1 ∷ number 6 ∷ [])) (from_two_to_five ∷ []) ≡ only False
members_past_all = refl

-- two strings from "abc" to "abd": each begins with "ab", none with "b", and some may with "abc"
abbrev two_words : Known
two_words = record { row_count = 2; null_count = Some 0; lower = exactly (word (97 ∷ 98 ∷ 99 ∷ [])); upper = exactly (word (97 ∷ 98 ∷ 100 ∷ [])) }

each_begins : outcomes (prefix_test 0 (word (97 ∷ 98 ∷ []))) (two_words ∷ []) ≡ only True
each_begins = refl

none_begins : outcomes (prefix_test 0 (word (98 ∷ []))) (two_words ∷ []) ≡ only False
none_begins = refl

some_begin : outcomes (prefix_test 0 (word (97 ∷ 98 ∷ 99 ∷ []))) (two_words ∷ []) ≡ false_or_true
some_begin = refl

-- bytes are no beginning of a string, nor of what is not known
bytes_begin_no_string : outcomes (prefix_test 0 (bytes [])) (two_words ∷ []) ≡ only Unknown
bytes_begin_no_string = refl

number_begins_nothing : outcomes (prefix_test 1 (number 1)) (two_words ∷ []) ≡ only Unknown
number_begins_nothing = refl

-- with `like`: all begin with what stands before the first wildcard, none does, or some may
some_are_like : outcomes (pattern_test 0 Sensitive (literal 97 ∷ literal 98 ∷ any_string ∷ literal 99 ∷ [])) (two_words ∷ []) ≡ false_or_true
unfolding lib.Utf8.encode
some_are_like = refl

none_is_like : outcomes (pattern_test 0 Sensitive (literal 98 ∷ any_string ∷ literal 99 ∷ [])) (two_words ∷ []) ≡ only False
unfolding lib.Utf8.encode
none_is_like = refl

-- letters without a case may be like any
some_are_ilike : outcomes (pattern_test 0 Insensitive (literal 98 ∷ any_string ∷ [])) (two_words ∷ []) ≡ false_or_true
some_are_ilike = refl

-- a pattern without a wildcard is one string: it is all that there is, or longer than the bounds allow
abbrev one_word : Known
one_word = record { row_count = 2; null_count = Some 0; lower = exactly (word (97 ∷ 98 ∷ [])); upper = exactly (word (97 ∷ 98 ∷ [])) }

each_is_like : outcomes (pattern_test 0 Sensitive (literal 97 ∷ literal 98 ∷ [])) (one_word ∷ []) ≡ only True
unfolding lib.Utf8.encode
each_is_like = refl

none_is_so_short : outcomes (pattern_test 0 Sensitive (literal 97 ∷ [])) (one_word ∷ []) ≡ only False
unfolding lib.Utf8.encode
none_is_so_short = refl

-- a number is like nothing, nor fails to be
number_is_like_nothing : outcomes (pattern_test 0 Sensitive (any_string ∷ [])) (from_two_to_five ∷ []) ≡ only Unknown
number_is_like_nothing = refl

-- what is False or Unknown, and something that is True: False or Unknown
and_with_true : outcomes_and not_true (only True) ≡ not_true
and_with_true = refl

-- a negated filter that may be False or Unknown may be True
not_false_or_unknown : outcomes_not not_true ≡ record { may_be_false = false; may_be_unknown = true; may_be_true = true }
not_false_or_unknown = refl

-- a column without nulls is never null, so a filter that wants a null there matches nothing, and its negation each row
null_where_none_is : outcomes (both (null_test 1) (comparison 0 Gt (number 3))) (with_a_null ∷ (from_two_to_five ∷ [])) ≡ only False
null_where_none_is = refl

not_null_where_none_is : is_only_true (outcomes (negation (null_test 1)) (with_a_null ∷ (from_two_to_five ∷ []))) ≡ true
not_null_where_none_is = refl

-- ---- searches

abbrev three_rows : List (List Cell)
three_rows = (number 2 ∷ []) ∷ (number 4 ∷ []) ∷ (number 5 ∷ []) ∷ []

-- a zone that is skipped, one that is taken whole, and one that is read
zone_skipped : taken_of (comparison 0 Gt (number 5)) (record { statistics = from_two_to_five ∷ []; rows = three_rows }) ≡ []
zone_skipped = refl

zone_taken : taken_of (comparison 0 Lt (number 6)) (record { statistics = from_two_to_five ∷ []; rows = three_rows }) ≡ three_rows
zone_taken = refl

zone_read : taken_of (either (comparison 0 Eq (number 4)) (constant False)) (record { statistics = from_two_to_five ∷ []; rows = three_rows }) ≡ (number 4 ∷ []) ∷ []
zone_read = refl

-- ---- what is left on a zone

-- an i16
abbrev short : ℕ → Cell
short n = record { typed = integer_type I16 Nullable; content = whole (pos n) }

abbrev no_short : Cell
no_short = record { typed = integer_type I16 Nullable; content = null }

-- three values from 2 to 5
abbrev shorts : Known
shorts = record { row_count = 3; null_count = Some 0; lower = Some (record { value = short 2; is_exact = true }); upper = Some (record { value = short 5; is_exact = true }) }

abbrev shorts_and_null : Known
shorts_and_null = record { row_count = 3; null_count = Some 1; lower = Some (record { value = short 2; is_exact = true }); upper = Some (record { value = short 5; is_exact = true }) }

true_left_out : residual (shorts ∷ shorts ∷ []) (both (comparison 0 Gte (short 1)) (comparison 1 Eq (short 4))) ≡ comparison 1 Eq (short 4)
true_left_out = refl

false_left_out : residual (shorts ∷ shorts ∷ []) (either (comparison 0 Gt (short 5)) (comparison 1 Eq (short 4))) ≡ comparison 1 Eq (short 4)
false_left_out = refl

all_match : residual (shorts ∷ []) (negation (comparison 0 Gt (short 5))) ≡ constant True
all_match = refl

-- with a null among the values the comparison can be Unknown, and stays
null_keeps : residual (shorts_and_null ∷ []) (comparison 0 Gte (short 1)) ≡ comparison 0 Gte (short 1)
null_keeps = refl

-- with a null as literal it is Unknown, whatever the cells are
null_literal : residual (shorts_and_null ∷ []) (comparison 0 Eq no_short) ≡ constant Unknown
null_literal = refl

nodes_and_literals : size (both (comparison 0 Gte (short 1)) (membership 1 (short 1 ∷ short 2 ∷ []))) ≡ 6
nodes_and_literals = refl
