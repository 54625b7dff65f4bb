-- The words by which values of logical types are printed: floats, decimals, dates, times and timestamps.
use Rattle.std.specs.Prelude.{◌≡◌, ◌&&◌, ℕ, ℤ, Bool, true, false, List, [], ◌∷◌, drop, length, map, Option, Some, None, is_some, option_map, if◌then◌else◌}
use Rattle.std.specs.String.{string_bytes}
use Rattle.vortex_dtype.specs.TypeTree.{TypeTree}
use Rattle.vortex_cells.specs.Cells.{Cell}
use Rattle.vortex_filter.specs.Formula.{Formula, constant, comparison, null_test, membership, range, prefix_test, pattern_test, both, either, negation}
use Rattle.vortex_filter.specs.LogicalValues.{IsLogicalValue}
use Rattle.logical_scalars.specs.TypeShapes.{shape_in}
use Rattle.logical_types.specs.Words.{Writes}
use Rattle.logical_types.specs.declared.logical.LogicalType.{LogicalType}
use Rattle.logical_types.specs.declared.logical.LogicalType.TheVariants.{Float64, Float32, Decimal, Date, Time, Timestamp}
use Rattle.filter_sql.specs.Lexing.{is_number}
use Rattle.filter_sql.specs.Tokens.{TokenTree, number_token, string_token}
use Rattle.filter_sql.specs.declared.literal_words.Word.{Word}
use Rattle.filter_sql.specs.declared.literal_words.Word.TheVariants as words

-- a word as it stands among tokens
pub data WordTree : Type 0 where
  -- a number, as it is
  bare_word : List ℕ → WordTree
  -- in quotes
  quoted_word : List ℕ → WordTree

abbrev pub word_tree : Word → WordTree
word_tree (words.Bare s) = bare_word (string_bytes s)
word_tree (words.Quoted s) = quoted_word (string_bytes s)

abbrev pub token_of_word : WordTree → TokenTree
token_of_word (bare_word word) = number_token word
token_of_word (quoted_word word) = string_token word

-- ---- of one literal

-- whether the type is a logical type
abbrev pub is_logical : TypeTree → Bool
is_logical t = is_some (shape_in t)

-- whether values of the type are numbers
abbrev pub is_numeric : LogicalType → Bool
is_numeric Float64 = true
is_numeric Float32 = true
is_numeric (Decimal d) = true
is_numeric Date = false
is_numeric (Time unit) = false
is_numeric (Timestamp unit is_zoned) = false

-- a number as it is, and what is none in quotes: days, times, and floats such as `NaN`
abbrev pub printed_word : LogicalType → List ℕ → WordTree
printed_word logical word = if is_numeric logical && is_number word then bare_word word else quoted_word word

-- the cell is a value of a logical type, and this is a word of it
pub record WritesCell (w : WordTree) (x : Cell) : Type 0 where
  pub logical : LogicalType
  pub storage : ℤ
  pub is : IsLogicalValue logical storage x
  pub word : List ℕ
  pub writes : Writes logical word storage
  pub printed : w ≡ printed_word logical word

-- a word of the cell, and none if it is no value of a logical type
abbrev pub IsWordOf : Option WordTree → Cell → Type 0
IsWordOf (Some w) x = WritesCell w x
IsWordOf None x = (logical : LogicalType) (z : ℤ) → ¬ (IsLogicalValue logical z x)

-- ---- of several

-- the words of literals, one for each literal; there is none for a literal that is no value of a logical type, and behind the last
abbrev pub LiteralWords : Type 0
LiteralWords = List (Option WordTree)

abbrev pub word_trees : List (Option Word) → LiteralWords
word_trees chosen = map (option_map word_tree) chosen

abbrev pub first_word : LiteralWords → Option WordTree
first_word [] = None
first_word (w ∷ ws) = w

abbrev pub AreWordsOfEach : LiteralWords → List Cell → Type 0
AreWordsOfEach ws [] = Unit {0}
AreWordsOfEach ws (x ∷ xs) = IsWordOf (first_word ws) x × AreWordsOfEach (drop 1 ws) xs

-- ---- of a formula, in reading order

-- the words behind those of its literals
abbrev pub words_behind : Formula → LiteralWords → LiteralWords
words_behind (constant t) ws = ws
words_behind (comparison k op x) ws = drop 1 ws
words_behind (null_test k) ws = ws
words_behind (membership k xs) ws = drop (length xs) ws
words_behind (range k x y) ws = drop 2 ws
words_behind (prefix_test k x) ws = drop 1 ws
words_behind (pattern_test k case parts) ws = ws
words_behind (both p q) ws = words_behind q (words_behind p ws)
words_behind (either p q) ws = words_behind q (words_behind p ws)
words_behind (negation p) ws = words_behind p ws

-- the words are those of its literals
abbrev pub AreWordsOf : LiteralWords → Formula → Type 0
AreWordsOf ws (constant t) = Unit {0}
AreWordsOf ws (comparison k op x) = IsWordOf (first_word ws) x
AreWordsOf ws (null_test k) = Unit {0}
AreWordsOf ws (membership k xs) = AreWordsOfEach ws xs
AreWordsOf ws (range k x y) = IsWordOf (first_word ws) x × IsWordOf (first_word (drop 1 ws)) y
AreWordsOf ws (prefix_test k x) = IsWordOf (first_word ws) x
AreWordsOf ws (pattern_test k case parts) = Unit {0}
AreWordsOf ws (both p q) = AreWordsOf ws p × AreWordsOf (words_behind p ws) q
AreWordsOf ws (either p q) = AreWordsOf ws p × AreWordsOf (words_behind p ws) q
AreWordsOf ws (negation p) = AreWordsOf ws p
