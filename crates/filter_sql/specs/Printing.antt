-- The tokens of a filter's text. `or` binds loosest, then `and`, then `not`; `and` and `or` group to the right.
use Rattle.std.specs.Prelude.{◌≡◌, ◌==◌, ◌&&◌, ◌||◌, not, ◌+◌, ℕ, ℤ, pos, negsuc, suc, Bool, true, false, List, [], ◌∷◌, ◌++◌, Option, Some, None, drop, map, slice_get, codes, if◌then◌else◌}
use Rattle.std.specs.Fmt.{decimal}
use Rattle.std.specs.List.{flat_map, list_any}
use Rattle.std.specs.Option.{unwrap_or}
use Rattle.std.specs.Str.{encode_utf8_all}
use Rattle.std.specs.String.{string_bytes}
use Rattle.vortex_cells.specs.Cells.{Cell, is_null_cell}
use Rattle.vortex_value.specs.Values.Content.{Content, null, truth, whole, text, string, sequence, no_contents}
use Rattle.filter_sql.specs.declared.column.Column.{Column}
use Rattle.vortex_filter.specs.declared.operator.CompareOperator.{CompareOperator}
use Rattle.filter_sql.specs.declared.print.Level.{Level}
use Rattle.filter_sql.specs.declared.print.Level.TheVariants as levels
use Rattle.filter_sql.specs.declared.print.Sql.{Sql}
use Rattle.filter_sql.specs.declared.token.Keyword.{Keyword}
use Rattle.filter_sql.specs.declared.token.Keyword.TheVariants as keywords
use Rattle.like_patterns.specs.declared.case.Case.{Case}
use Rattle.like_patterns.specs.Patterns.{Part}
use Rattle.like_patterns.specs.Texts.{has_special, pattern_text}
use Rattle.vortex_filter.specs.declared.truth.Truth.{Truth}
use Rattle.vortex_filter.specs.declared.truth.Truth.TheVariants as truths
use Rattle.vortex_filter.specs.Formula.{Formula, formula, constant, comparison, null_test, membership, range, prefix_test, pattern_test, both, either, negation}
use Rattle.filter_sql.specs.Literals.{like_keyword}
use Rattle.filter_sql.specs.LiteralWords.{AreWordsOf, LiteralWords, WordTree, first_word, is_logical, token_of_word, word_trees, words_behind}
use Rattle.filter_sql.specs.Tokens.{TokenTree, keyword_token, name_token, number_token, string_token, bytes_token, operator_token, opening, closing, comma, verbatim, canonical}

-- ---- columns and literals

-- the name of the column at this place, or $1, $2 and so on if there is none
abbrev pub column_name : List (List ℕ) → ℕ → List ℕ
column_name names k = unwrap_or (slice_get names k) (36 ∷ decimal (k + 1))

abbrev pub column_token : List (List ℕ) → ℕ → TokenTree
column_token names k = name_token (column_name names k)

abbrev pub truth_keyword : Bool → Keyword
truth_keyword true = keywords.True
truth_keyword false = keywords.False

-- an integer, by its digits
abbrev pub integer_text : ℤ → List ℕ
integer_text (pos n) = decimal n
integer_text (negsuc n) = 45 ∷ decimal (suc n)

-- a content as SQL writes it, and a question mark where SQL has no literal
abbrev pub content_token : Content → TokenTree
content_token null = keyword_token keywords.Null
content_token (truth b) = keyword_token (truth_keyword b)
content_token (whole z) = number_token (integer_text z)
content_token (text bs) = string_token bs
content_token (string bs) = bytes_token bs
content_token _ = verbatim (codes "?")

-- what is printed of a cell without a word: its content, unless it is of a logical type, in which this would be read as another value
abbrev pub printed_content : Cell → Content
printed_content x = if not (is_null_cell x) && is_logical x.typed then sequence no_contents else x.content

-- a literal by its word, if it has one
abbrev pub literal_token : Option WordTree → Cell → TokenTree
literal_token (Some w) x = token_of_word w
literal_token None x = content_token (printed_content x)

-- literals with commas between them
abbrev pub literal_tokens : LiteralWords → List Cell → List TokenTree
literal_tokens ws [] = []
literal_tokens ws (x ∷ []) = literal_token (first_word ws) x ∷ []
literal_tokens ws (x ∷ y ∷ xs) = literal_token (first_word ws) x ∷ comma ∷ literal_tokens (drop 1 ws) (y ∷ xs)

-- ---- prefixes and patterns

-- what has a meaning of its own in a pattern: %, _ and \
abbrev pub is_special : ℕ → Bool
is_special b = (b == 37 || b == 95) || b == 92

abbrev pub escaped_byte : ℕ → List ℕ
escaped_byte b = if is_special b then 92 ∷ b ∷ [] else b ∷ []

-- the pattern of the strings that begin so: each special byte with a \ before it, and then %
abbrev pub prefix_pattern : List ℕ → List ℕ
prefix_pattern prefix = flat_map escaped_byte prefix ++ 37 ∷ []

-- that \ escapes, if something is escaped
abbrev pub escape_tokens : Bool → List TokenTree
escape_tokens true = keyword_token keywords.Escape ∷ string_token (92 ∷ []) ∷ []
escape_tokens false = []

abbrev pub like_tokens : TokenTree → List ℕ → List TokenTree
like_tokens column prefix = column ∷ keyword_token keywords.Like ∷ string_token (prefix_pattern prefix) ∷ escape_tokens (list_any is_special prefix)

-- by `like`, or by `ilike`
abbrev pub pattern_tokens : Case → List Part → List TokenTree
pattern_tokens case parts = keyword_token (like_keyword case) ∷ string_token (encode_utf8_all (pattern_text parts)) ∷ escape_tokens (has_special parts)

abbrev pub starts_with_tokens : TokenTree → TokenTree → List TokenTree
starts_with_tokens column prefix = keyword_token keywords.StartsWith ∷ opening ∷ column ∷ comma ∷ prefix ∷ closing ∷ []

-- a string by `like`, anything else by `starts_with` and its token
abbrev pub prefix_tokens : TokenTree → TokenTree → Content → List TokenTree
prefix_tokens column prefix (text bs) = like_tokens column bs
prefix_tokens column prefix _ = starts_with_tokens column prefix

-- ---- formulas

abbrev pub constant_keyword : Truth → Keyword
constant_keyword truths.True = keywords.True
constant_keyword truths.False = keywords.False
constant_keyword truths.Unknown = keywords.Null

-- tokens in parentheses, if they are needed
abbrev pub grouped : Bool → List TokenTree → List TokenTree
grouped true ts = opening ∷ (ts ++ closing ∷ [])
grouped false ts = ts

-- whether `or`, and whether `and`, needs parentheses in a place where only this level may stand bare, and what binds tighter
abbrev pub groups_or : Level → Bool
groups_or levels.Or = false
groups_or levels.And = true
groups_or levels.Not = true

abbrev pub groups_and : Level → Bool
groups_and levels.Or = false
groups_and levels.And = false
groups_and levels.Not = true

-- `not`, where it stands inside a test
abbrev pub not_tokens : Bool → List TokenTree
not_tokens true = keyword_token keywords.Not ∷ []
not_tokens false = []

abbrev pub comparison_tokens : List (List ℕ) → LiteralWords → ℕ → CompareOperator → Cell → List TokenTree
comparison_tokens names ws k op literal = column_token names k ∷ operator_token op ∷ literal_token (first_word ws) literal ∷ []

-- what stands behind the column
abbrev pub null_test_tokens : Bool → List TokenTree
null_test_tokens negated = keyword_token keywords.Is ∷ (not_tokens negated ++ keyword_token keywords.Null ∷ [])

abbrev pub membership_tokens : Bool → LiteralWords → List Cell → List TokenTree
membership_tokens negated ws literals = not_tokens negated ++ (keyword_token keywords.In ∷ opening ∷ (literal_tokens ws literals ++ closing ∷ []))

abbrev pub range_tokens : Bool → LiteralWords → Cell → Cell → List TokenTree
range_tokens negated ws lower upper =
    not_tokens negated ++ (keyword_token keywords.Between ∷ literal_token (first_word ws) lower ∷ keyword_token keywords.And ∷ literal_token (first_word (drop 1 ws)) upper ∷ [])

-- the tokens of a formula in a place where this level may stand bare, by the words of its literals and of what follows it
abbrev pub tokens_at : List (List ℕ) → LiteralWords → Level → Formula → List TokenTree
tokens_at names ws level (constant t) = keyword_token (constant_keyword t) ∷ []
tokens_at names ws level (comparison k op literal) = comparison_tokens names ws k op literal
tokens_at names ws level (null_test k) = column_token names k ∷ null_test_tokens false
tokens_at names ws level (membership k literals) = column_token names k ∷ membership_tokens false ws literals
tokens_at names ws level (range k lower upper) = column_token names k ∷ range_tokens false ws lower upper
tokens_at names ws level (prefix_test k prefix) = prefix_tokens (column_token names k) (literal_token (first_word ws) prefix) prefix.content
tokens_at names ws level (pattern_test k case parts) = column_token names k ∷ pattern_tokens case parts
tokens_at names ws level (both p q) = grouped (groups_and level) (tokens_at names ws levels.Not p ++ (keyword_token keywords.And ∷ tokens_at names (words_behind p ws) levels.And q))
tokens_at names ws level (either p q) = grouped (groups_or level) (tokens_at names ws levels.And p ++ (keyword_token keywords.Or ∷ tokens_at names (words_behind p ws) levels.Or q))
tokens_at names ws level (negation (null_test k)) = column_token names k ∷ null_test_tokens true
tokens_at names ws level (negation (membership k literals)) = column_token names k ∷ membership_tokens true ws literals
tokens_at names ws level (negation (range k lower upper)) = column_token names k ∷ range_tokens true ws lower upper
tokens_at names ws level (negation p) = keyword_token keywords.Not ∷ tokens_at names ws levels.Not p

-- the tokens of a formula's text
abbrev pub tokens_of : List (List ℕ) → LiteralWords → Formula → List TokenTree
tokens_of names ws f = tokens_at names ws levels.Or f

-- the names of columns
abbrev pub names_of : List Column → List (List ℕ)
names_of columns = map (λ c. string_bytes c.name) columns

-- a formula as SQL text, by the words of its literals
abbrev pub sql_text : List (List ℕ) → LiteralWords → Formula → List ℕ
sql_text names ws f = canonical (tokens_of names ws f)

-- what is written of a filter that is printed
abbrev pub written_text : Sql → List ℕ
written_text sql = sql_text (names_of sql.columns.now) (word_trees sql.words.items) (formula sql.filter.now)

-- The text is that of a formula, by some words of its literals. A float has several words: 10.5 and 1.05e1.
pub record IsSqlText (names : List (List ℕ)) (f : Formula) (sql : List ℕ) : Type 0 where
  pub words : LiteralWords
  pub are : AreWordsOf words f
  pub text : sql ≡ sql_text names words f
