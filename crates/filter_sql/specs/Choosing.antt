-- How the words of a filter's literals are gathered, one behind the other.
use Rattle.std.specs.Prelude.{◌≡◌, ◌||◌, Bool, false, List, [], ◌∷◌, ◌++◌, Option, drop, length}
use Rattle.std.specs.List.{list_any}
use Rattle.vortex_cells.specs.Cells.{Cell}
use Rattle.vortex_filter.specs.Formula.{Formula, constant, comparison, null_test, membership, range, prefix_test, pattern_test, both, either, negation}
use Rattle.filter_sql.specs.LiteralWords.{AreWordsOf, AreWordsOfEach, IsWordOf, LiteralWords, WordTree, is_logical, words_behind}

-- whether the cell is of a logical type
abbrev pub is_logical_cell : Cell → Bool
is_logical_cell x = is_logical x.typed

-- whether a literal is of a logical type
abbrev pub has_logical : Formula → Bool
has_logical (constant t) = false
has_logical (comparison k op x) = is_logical_cell x
has_logical (null_test k) = false
has_logical (membership k xs) = list_any is_logical_cell xs
has_logical (range k x y) = is_logical_cell x || is_logical_cell y
has_logical (prefix_test k x) = is_logical_cell x
has_logical (pattern_test k case parts) = false
has_logical (both p q) = has_logical p || has_logical q
has_logical (either p q) = has_logical p || has_logical q
has_logical (negation p) = has_logical p

-- the word of a literal is appended
pub record AddsWord (x : Cell) (old now : LiteralWords) : Type 0 where
  pub word : Option WordTree
  pub is : IsWordOf word x
  pub added : now ≡ old ++ word ∷ []

-- those of literals, whatever words stand behind them
pub record AddsEach (xs : List Cell) (old now : LiteralWords) : Type 0 where
  pub words : LiteralWords
  pub are : (rest : LiteralWords) → AreWordsOfEach (words ++ rest) xs
  pub ends : (rest : LiteralWords) → drop (length xs) (words ++ rest) ≡ rest
  pub added : now ≡ old ++ words

-- those of a formula's literals
pub record AddsWords (f : Formula) (old now : LiteralWords) : Type 0 where
  pub words : LiteralWords
  pub are : (rest : LiteralWords) → AreWordsOf (words ++ rest) f
  pub ends : (rest : LiteralWords) → words_behind f (words ++ rest) ≡ rest
  pub added : now ≡ old ++ words
