-- The texts of the parts of a filter, as they are printed one behind the other.
use Rattle.std.specs.Prelude.{◌++◌, ℕ, ◌==◌, Bool, true, false, List, [], ◌∷◌, Option, codes, drop, encode_utf8, if◌then◌else◌}
use Rattle.std.specs.List.{list_any}
use Rattle.std.specs.Str.{encode_utf8_all}
use Rattle.vortex_cells.specs.Cells.{Cell}
use Rattle.vortex_value.specs.Texts.{joined}
use Rattle.vortex_value.specs.Values.Content.{Content, text}
use Rattle.like_patterns.specs.declared.case.Case.{Case}
use Rattle.like_patterns.specs.declared.case.Case.TheVariants.{Sensitive, Insensitive}
use Rattle.like_patterns.specs.Patterns.{Part}
use Rattle.like_patterns.specs.Texts.{has_special, pattern_text}
use Rattle.vortex_filter.specs.declared.operator.CompareOperator.{CompareOperator}
use Rattle.filter_sql.specs.declared.print.Level.{Level}
use Rattle.filter_sql.specs.declared.print.Level.TheVariants as levels
use Rattle.vortex_filter.specs.Formula.{Formula, constant, comparison, null_test, membership, range, prefix_test, pattern_test, both, either, negation}
use Rattle.filter_sql.specs.Tokens.{keyword_text, operator_text, quoted, spelling}
use Rattle.filter_sql.specs.LiteralWords.{LiteralWords, WordTree, first_word, words_behind}
use Rattle.filter_sql.specs.Printing.{column_token, constant_keyword, groups_and, groups_or, is_special, literal_token, prefix_pattern}

-- a character, twice if it is the quote
abbrev pub quotable : ℕ → ℕ → List ℕ
quotable quote c = if c == quote then encode_utf8 c ++ encode_utf8 c else encode_utf8 c

-- a character of a prefix in a pattern in quotes
abbrev pub patterned : ℕ → List ℕ
patterned c = if c == 39 then codes "''" else if is_special c then 92 ∷ c ∷ [] else encode_utf8 c

abbrev pub column_text : List (List ℕ) → ℕ → List ℕ
column_text names k = spelling (column_token names k)

abbrev pub literal_text : Option WordTree → Cell → List ℕ
literal_text w x = spelling (literal_token w x)

abbrev pub literal_texts : LiteralWords → List Cell → List (List ℕ)
literal_texts ws [] = []
literal_texts ws (x ∷ xs) = literal_text (first_word ws) x ∷ literal_texts (drop 1 ws) xs

-- literals with a comma and a space between them
abbrev pub literals_text : LiteralWords → List Cell → List ℕ
literals_text ws literals = joined (codes ", ") (literal_texts ws literals)

abbrev pub comparison_text : List (List ℕ) → LiteralWords → ℕ → CompareOperator → Cell → List ℕ
comparison_text names ws k op x = column_text names k ++ (codes " " ++ (operator_text op ++ (codes " " ++ literal_text (first_word ws) x)))

abbrev pub null_test_text : List (List ℕ) → ℕ → Bool → List ℕ
null_test_text names k negated = column_text names k ++ (if negated then codes " is not null" else codes " is null")

abbrev pub membership_text : List (List ℕ) → LiteralWords → ℕ → Bool → List Cell → List ℕ
membership_text names ws k negated literals =
    column_text names k ++ ((if negated then codes " not in (" else codes " in (") ++ (literals_text ws literals ++ codes ")"))

abbrev pub range_text : List (List ℕ) → LiteralWords → ℕ → Bool → Cell → Cell → List ℕ
range_text names ws k negated lower upper =
    column_text names k ++ ((if negated then codes " not between " else codes " between ") ++ (literal_text (first_word ws) lower ++ (codes " and " ++ literal_text (first_word (drop 1 ws)) upper)))

abbrev pub escape_text : Bool → List ℕ
escape_text special = if special then codes " escape '\\'" else []

abbrev pub like_text : List (List ℕ) → ℕ → List ℕ → List ℕ
like_text names k prefix = column_text names k ++ (codes " like " ++ (quoted 39 (prefix_pattern prefix) ++ escape_text (list_any is_special prefix)))

abbrev pub starts_with_text : List (List ℕ) → ℕ → List ℕ → List ℕ
starts_with_text names k prefix = codes "starts_with(" ++ (column_text names k ++ (codes ", " ++ (prefix ++ codes ")")))

abbrev pub prefix_text : List (List ℕ) → ℕ → List ℕ → Content → List ℕ
prefix_text names k prefix (text bs) = like_text names k bs
prefix_text names k prefix _ = starts_with_text names k prefix

-- `like` or `ilike` between a column and a pattern
abbrev pub like_word : Case → List ℕ
like_word Sensitive = codes " like "
like_word Insensitive = codes " ilike "

abbrev pub pattern_test_text : List (List ℕ) → ℕ → Case → List Part → List ℕ
pattern_test_text names k case parts = column_text names k ++ (like_word case ++ (quoted 39 (encode_utf8_all (pattern_text parts)) ++ escape_text (has_special parts)))

-- a text, in parentheses if they are needed
abbrev pub group_text : Bool → List ℕ → List ℕ
group_text grouped inner = (if grouped then codes "(" else []) ++ (inner ++ (if grouped then codes ")" else []))

-- of a formula in a place where this level may stand bare, by the words of its literals and of what follows it
abbrev pub text_at : List (List ℕ) → LiteralWords → Level → Formula → List ℕ
text_at names ws level (constant t) = keyword_text (constant_keyword t)
text_at names ws level (comparison k op x) = comparison_text names ws k op x
text_at names ws level (null_test k) = null_test_text names k false
text_at names ws level (membership k literals) = membership_text names ws k false literals
text_at names ws level (range k lower upper) = range_text names ws k false lower upper
text_at names ws level (prefix_test k prefix) = prefix_text names k (literal_text (first_word ws) prefix) prefix.content
text_at names ws level (pattern_test k case parts) = pattern_test_text names k case parts
text_at names ws level (both p q) = group_text (groups_and level) (text_at names ws levels.Not p ++ (codes " and " ++ text_at names (words_behind p ws) levels.And q))
text_at names ws level (either p q) = group_text (groups_or level) (text_at names ws levels.And p ++ (codes " or " ++ text_at names (words_behind p ws) levels.Or q))
text_at names ws level (negation (null_test k)) = null_test_text names k true
text_at names ws level (negation (membership k literals)) = membership_text names ws k true literals
text_at names ws level (negation (range k lower upper)) = range_text names ws k true lower upper
text_at names ws level (negation p) = codes "not " ++ text_at names ws levels.Not p

abbrev pub and_text : List (List ℕ) → LiteralWords → Formula → Formula → List ℕ
and_text names ws p q = text_at names ws levels.Not p ++ (codes " and " ++ text_at names (words_behind p ws) levels.And q)

abbrev pub or_text : List (List ℕ) → LiteralWords → Formula → Formula → List ℕ
or_text names ws p q = text_at names ws levels.And p ++ (codes " or " ++ text_at names (words_behind p ws) levels.Or q)
