-- Worked cases of SQL text, each a theorem.
use Rattle.std.specs.Prelude.{◌≡◌, ⊤, ℕ, pos, negsuc, List, [], ◌∷◌, refl, codes, Option, Some, None, Ok, Err}
use Rattle.std.specs.Char.{encode_utf8}
use Rattle.std.specs.Fmt.{digits}
use Rattle.std.specs.Str.{chars}
use Rattle.hex.specs.Hex.{decode_pairs, encode_with}
use Rattle.vortex_dtype.specs.TypeTree.{extension_type, integer_type, null_type, utf8_type}
use Rattle.vortex_dtype.specs.declared.nullability.Nullability.TheVariants.{NonNullable, Nullable}
use Rattle.vortex_dtype.specs.declared.ptype.PType.TheVariants.{I32, I64, U8}
use Rattle.vortex_cells.specs.Cells.{Cell}
use Rattle.vortex_value.specs.Values.Content.{Content, null, whole, text, string}
use Rattle.vortex_filter.specs.declared.operator.CompareOperator.TheVariants.{NotEq, Gte, Lt, Eq}
use Rattle.logical_types.specs.Shapes.{place_in}
use Rattle.filter_sql.specs.declared.lex.LexError.TheVariants.{BadText}
use Rattle.filter_sql.specs.declared.error.Expected.TheVariants as expects
use Rattle.filter_sql.specs.declared.parsing.errors.Cause.TheVariants as causes
use Rattle.filter_sql.specs.declared.parsing.errors.TokenError.TheVariants as faults
use Rattle.filter_sql.specs.declared.token.Keyword.TheVariants.{And, In, Not, Or}
use Rattle.filter_sql.specs.declared.token.Keyword.TheVariants as keywords
use Rattle.vortex_filter.specs.declared.truth.Truth.TheVariants.{True, Unknown}
use Rattle.vortex_filter.specs.Formula.{Formula, constant, comparison, null_test, membership, range, prefix_test, pattern_test, both, either, negation}
use Rattle.like_patterns.specs.declared.case.Case.TheVariants.{Sensitive, Insensitive}
use Rattle.like_patterns.specs.Patterns.{literal, any_character, any_string}
use Rattle.like_patterns.specs.Texts.{parts_from}
use Rattle.filter_sql.specs.Lexing.{after_digits, after_fraction, after_power, bytes_at, mark_of, number_at, parameter_at, token_at, unquoted_at, word_at}
use Rattle.filter_sql.specs.Tokens.{bytes_token, closing, number_token, keyword_named, keyword_token, name_token, opening, operator_token, string_token}
use Rattle.filter_sql.specs.LiteralWords.{bare_word, quoted_word}
use Rattle.filter_sql.specs.Printing.{sql_text}
use Rattle.filter_sql.specs.ColumnNames.{ColumnTree, column_named, numbered_place}
use Rattle.vortex_filter.specs.Literals.{number_cell, number_literal, text_cell, text_literal}
use Rattle.filter_sql.specs.Literals.{Condition, alike, between, compared, formula_in, listed, literal_of}
use Rattle.filter_sql.specs.Mistakes.{cells_mistake, condition_mistake, conjunction_mistake, disjunction_mistake, escape_mistake, filter_mistake, group_mistake, like_mistake, literal_mistake, members_mistake, mistake_at, mistakes, more_mistake, operand_mistake, predicate_mistake, test_mistake}
use Rattle.filter_sql.specs.Reading.{after_closing, after_comma, after_keyword, after_opening, and_from, cells_at, comparison_at, condition_at, conjunction_of, constant_at, disjunction_of, escape_at, group_of, like_at, members_at, more_cells, name_at, operand_from, operand_of, operator_at, or_from, position_at, predicate_at, read_at, reads, string_at, test_at, token_position}

-- what the proofs compute by
unfoldable on_texts : ⊤
unfolding after_digits after_fraction after_power bytes_at decode_pairs digits encode_utf8 encode_with keyword_named mark_of number_at parameter_at token_at unquoted_at word_at
on_texts = tt

-- Tokens, and what follows each.

pub operators_are_longest :
    (token_at (codes "<>1") ≡ Ok (operator_token NotEq, codes "1")) × (token_at (codes ">= 1") ≡ Ok (operator_token Gte, codes " 1")) × (token_at (codes "<-1") ≡ Ok (operator_token Lt, codes "-1"))
unfolding on_texts
operators_are_longest = (refl, refl, refl)

pub keywords_are_of_any_case : (token_at (codes "AnD x") ≡ Ok (keyword_token And, codes " x")) × (token_at (codes "andy") ≡ Ok (name_token (codes "andy"), []))
unfolding on_texts
keywords_are_of_any_case = (refl, refl)

pub names : (token_at (codes "\"a\"\"b\"<") ≡ Ok (name_token (codes "a\"b"), codes "<")) × (token_at (codes "$12)") ≡ Ok (name_token (codes "$12"), codes ")")) × (token_at (codes "$)") ≡ Err BadText)
unfolding on_texts
names = (refl, refl, refl)

pub strings : (token_at (codes "'it''s' x") ≡ Ok (string_token (codes "it's"), codes " x")) × (token_at (codes "''") ≡ Ok (string_token [], [])) × (token_at (codes "'it''s") ≡ Err BadText)
unfolding on_texts
strings = (refl, refl, refl)

-- an even number of digits in either case
pub strings_of_bytes :
    (token_at (codes "X'00fF',") ≡ Ok (bytes_token (0 ∷ 255 ∷ []), codes ",")) × (token_at (codes "x'0g'") ≡ Err BadText) × (token_at (codes "x'0'") ≡ Err BadText) × (token_at (codes "x'00") ≡ Err BadText)
unfolding on_texts
strings_of_bytes = (refl, refl, refl, refl)

-- of any length, with a point and an exponent
pub numbers :
    (token_at (codes "-12)") ≡ Ok (number_token (codes "-12"), codes ")")) × (token_at (codes "- 12") ≡ Err BadText)
    × (token_at (codes "18446744073709551616") ≡ Ok (number_token (codes "18446744073709551616"), []))
    × (token_at (codes "10.50 and") ≡ Ok (number_token (codes "10.50"), codes " and")) × (token_at (codes "-1.5e-3)") ≡ Ok (number_token (codes "-1.5e-3"), codes ")"))
unfolding on_texts
numbers = (refl, refl, refl, refl, refl)

-- a digit stands before a point, and behind it and an e
pub no_numbers : (token_at (codes ".5") ≡ Err BadText) × (token_at (codes "1.") ≡ Err BadText) × (token_at (codes "1e") ≡ Err BadText) × (token_at (codes "1e+") ≡ Err BadText)
unfolding on_texts
no_numbers = (refl, refl, refl, refl)

-- Formulas.

abbrev pub cell : Content → Cell
cell c = record { typed = null_type; content = c }

abbrev pub is_one : Formula
is_one = comparison 0 Eq (cell (whole (pos 1)))

pub connectives :
    (sql_text [] [] (either (both is_one (null_test 1)) (constant True)) ≡ codes "\"$1\" = 1 and \"$2\" is null or true")
    × (sql_text [] [] (both (either is_one (null_test 1)) (negation (constant Unknown))) ≡ codes "(\"$1\" = 1 or \"$2\" is null) and not null")
    × (sql_text [] [] (both (both is_one is_one) is_one) ≡ codes "(\"$1\" = 1 and \"$1\" = 1) and \"$1\" = 1")
unfolding on_texts
connectives = (refl, refl, refl)

pub tests :
    (sql_text (codes "a\"b" ∷ []) [] (negation (null_test 0)) ≡ codes "\"a\"\"b\" is not null")
    × (sql_text [] [] (negation (membership 0 (cell (text (codes "it's")) ∷ cell null ∷ []))) ≡ codes "\"$1\" not in ('it''s', null)")
    × (sql_text [] [] (range 0 (cell (whole (negsuc 4))) (cell (whole (pos 5)))) ≡ codes "\"$1\" between -5 and 5")
unfolding on_texts
tests = (refl, refl, refl)

pub prefixes :
    (sql_text [] [] (prefix_test 0 (cell (text (codes "abc")))) ≡ codes "\"$1\" like 'abc%'")
    × (sql_text [] [] (prefix_test 0 (cell (text (codes "50%'")))) ≡ codes "\"$1\" like '50\\%''%' escape '\\'")
    × (sql_text [] [] (prefix_test 0 (cell (string (97 ∷ 255 ∷ [])))) ≡ codes "starts_with(\"$1\", x'61ff')")
unfolding on_texts
prefixes = (refl, refl, refl)

pub patterns :
    (sql_text [] [] (pattern_test 0 Sensitive (literal 97 ∷ any_character ∷ any_string ∷ [])) ≡ codes "\"$1\" like 'a_%'")
    × (sql_text [] [] (pattern_test 0 Insensitive (any_string ∷ literal 39 ∷ literal 37 ∷ [])) ≡ codes "\"$1\" ilike '%''\\%' escape '\\'")
    × (sql_text [] [] (negation (pattern_test 0 Sensitive (any_string ∷ literal 98 ∷ []))) ≡ codes "not \"$1\" like '%b'")
unfolding on_texts
patterns = (refl, refl, refl)

-- by words of values of logical types, in reading order: a number bare, and anything else in quotes
abbrev some : Cell
some = cell (whole (pos 1))

pub by_words :
    (sql_text [] (Some (bare_word (codes "10.5")) ∷ None ∷ Some (quoted_word (codes "2026-03-01")) ∷ []) (both (comparison 0 Lt some) (both (comparison 1 Eq some) (comparison 2 Gte some))) ≡ codes "\"$1\" < 10.5 and \"$2\" = 1 and \"$3\" >= '2026-03-01'")
    × (sql_text [] (Some (quoted_word (codes "NaN")) ∷ Some (bare_word (codes "-1.5e-7")) ∷ []) (membership 0 (some ∷ some ∷ [])) ≡ codes "\"$1\" in ('NaN', -1.5e-7)")
    × (sql_text [] (Some (bare_word (codes "12.30")) ∷ []) (either (range 0 some some) (null_test 1)) ≡ codes "\"$1\" between 12.30 and 1 or \"$2\" is null")
unfolding on_texts
by_words = (refl, refl, refl)

-- a number that is no value of a logical type
pub no_word : sql_text [] [] (comparison 0 Eq (record { typed = extension_type (codes "doqallin.f64") [] (integer_type I64 NonNullable); content = whole (pos 9223372036854775807) })) ≡ codes "\"$1\" = ?"
unfolding on_texts
no_word = refl

-- What is written of a column, by its type.

abbrev of_byte : Condition → Option Formula
of_byte = formula_in 0 (integer_type U8 NonNullable)

abbrev byte : ℕ → Cell
byte n = number_cell U8 (pos n)

-- x < 300, x in (300, 1), x in (300), x between 0 and 300, and x = ''
pub conditions :
    (of_byte (compared Lt (number_literal (codes "300"))) ≡ Some (either (negation (null_test 0)) (constant Unknown)))
    × (of_byte (listed (number_literal (codes "300") ∷ number_literal (codes "1") ∷ [])) ≡ Some (membership 0 (byte 1 ∷ [])))
    × (of_byte (listed (number_literal (codes "300") ∷ [])) ≡ Some (both (null_test 0) (constant Unknown)))
    × (of_byte (between (number_literal (codes "0")) (number_literal (codes "300"))) ≡ Some (both (comparison 0 Gte (byte 0)) (either (negation (null_test 0)) (constant Unknown))))
    × (of_byte (compared Eq (text_literal [])) ≡ None)
unfolding place_in
conditions = (refl, refl, refl, refl, refl)

-- s like 'a%' is told by its prefix, s like 'a_' and s ilike 'a%' are not; and x like ''
pub likes :
    (formula_in 0 (utf8_type Nullable) (alike Sensitive (literal 97 ∷ any_string ∷ [])) ≡ Some (prefix_test 0 (text_cell (codes "a"))))
    × (formula_in 0 (utf8_type Nullable) (alike Sensitive (literal 97 ∷ any_character ∷ [])) ≡ Some (pattern_test 0 Sensitive (literal 97 ∷ any_character ∷ [])))
    × (formula_in 0 (utf8_type Nullable) (alike Insensitive (literal 97 ∷ any_string ∷ [])) ≡ Some (pattern_test 0 Insensitive (literal 97 ∷ any_string ∷ [])))
    × (of_byte (alike Sensitive []) ≡ None)
unfolding encode_utf8
likes = (refl, refl, refl, refl)

-- Mistakes, by how many tokens are left.

abbrev pub one_column : List ColumnTree
one_column = record { name = codes "a"; typed = integer_type I32 Nullable } ∷ []

-- what the proofs compute by
unfoldable on_mistakes : ⊤
unfolding after_closing after_comma after_keyword after_opening and_from cells_at cells_mistake chars column_named comparison_at condition_at condition_mistake conjunction_mistake conjunction_of constant_at disjunction_mistake disjunction_of escape_at escape_mistake filter_mistake group_mistake group_of like_at like_mistake literal_mistake literal_of members_at members_mistake mistake_at mistakes more_cells more_mistake name_at numbered_place operand_from operand_mistake operand_of operator_at or_from parts_from place_in position_at predicate_at predicate_mistake read_at reads string_at test_at test_mistake token_position
on_mistakes = tt

-- a 3
pub no_operator : filter_mistake one_column 9 (name_token (codes "a") ∷ number_token (codes "3") ∷ []) ≡ faults.At 1 (causes.Expected expects.Operator)
unfolding on_mistakes
no_operator = refl

-- a in (1 2), and: true or b = 1
pub mistakes_behind :
    (filter_mistake one_column 9 (name_token (codes "a") ∷ keyword_token In ∷ opening ∷ number_token (codes "1") ∷ number_token (codes "2") ∷ closing ∷ []) ≡ faults.At 2 (causes.Expected expects.Closing))
    × (filter_mistake one_column 9 (keyword_token keywords.True ∷ keyword_token Or ∷ name_token (codes "b") ∷ operator_token Eq ∷ number_token (codes "1") ∷ []) ≡ faults.At 3 causes.NoColumn)
unfolding on_mistakes
mistakes_behind = (refl, refl)

-- (a = 1, and: a = 'x'
pub mistakes_at_last :
    (filter_mistake one_column 9 (opening ∷ name_token (codes "a") ∷ operator_token Eq ∷ number_token (codes "1") ∷ []) ≡ faults.At 0 (causes.Expected expects.Closing))
    × (filter_mistake one_column 9 (name_token (codes "a") ∷ operator_token Eq ∷ string_token (codes "x") ∷ []) ≡ faults.At 1 causes.TypesDiffer)
unfolding on_mistakes
mistakes_at_last = (refl, refl)

-- s like 'a!' escape '!', s like 'a' escape '', s ilike 1, and: a like 'b_'
abbrev pub text_column : List ColumnTree
text_column = record { name = codes "s"; typed = utf8_type Nullable } ∷ []

pub mistakes_of_patterns :
    (filter_mistake text_column 9 (name_token (codes "s") ∷ keyword_token keywords.Like ∷ string_token (codes "a!") ∷ keyword_token keywords.Escape ∷ string_token (codes "!") ∷ []) ≡ faults.At 3 (causes.Expected expects.Pattern))
    × (filter_mistake text_column 9 (name_token (codes "s") ∷ keyword_token keywords.Like ∷ string_token (codes "a") ∷ keyword_token keywords.Escape ∷ string_token [] ∷ []) ≡ faults.At 1 (causes.Expected expects.Escape))
    × (filter_mistake text_column 9 (name_token (codes "s") ∷ keyword_token keywords.Ilike ∷ number_token (codes "1") ∷ []) ≡ faults.At 1 (causes.Expected expects.Pattern))
    × (filter_mistake one_column 9 (name_token (codes "a") ∷ keyword_token keywords.Like ∷ string_token (codes "b_") ∷ []) ≡ faults.At 1 causes.TypesDiffer)
unfolding on_mistakes
mistakes_of_patterns = (refl, refl, refl, refl)

-- not not true, where one may nest
pub too_deep_there : filter_mistake one_column 1 (keyword_token Not ∷ keyword_token Not ∷ keyword_token keywords.True ∷ []) ≡ faults.At 1 causes.TooDeep
unfolding on_mistakes
too_deep_there = refl
