-- Which tokens are literals, what is written of a column, and which filter it is by the column's type.
use Rattle.std.specs.Prelude.{ℕ, true, false, List, [], ◌∷◌, Option, Some, None, option_and_then, if◌then◌else◌}
use Rattle.std.specs.Option.{option_map}
use Rattle.std.specs.Str.{encode_utf8_all}
use Rattle.vortex_dtype.specs.Parts.{is_utf8_type}
use Rattle.vortex_dtype.specs.TypeTree.{TypeTree}
use Rattle.like_patterns.specs.declared.case.Case.{Case}
use Rattle.like_patterns.specs.declared.case.Case.TheVariants.{Sensitive, Insensitive}
use Rattle.like_patterns.specs.Patterns.{Part, literal, any_character, any_string}
use Rattle.vortex_filter.specs.declared.operator.CompareOperator.{CompareOperator}
use Rattle.filter_sql.specs.declared.token.Keyword.{Keyword}
use Rattle.filter_sql.specs.declared.token.Keyword.TheVariants as keywords
use Rattle.vortex_filter.specs.CheckSteps.{holds_strings}
use Rattle.vortex_filter.specs.Formula.{Formula, null_test, prefix_test, pattern_test, negation}
use Rattle.vortex_filter.specs.Literals.{LiteralTree, null_literal, truth_literal, number_literal, text_literal, bytes_literal, position_of, text_cell}
use Rattle.vortex_filter.specs.Positions.{PositionTree, comparison_of, member_among, prefix_of, range_of}
use Rattle.filter_sql.specs.Tokens.{TokenTree, keyword_token, number_token, string_token, bytes_token}

-- ---- literals

-- `null`, `true` and `false`
abbrev pub keyword_literal : Keyword → Option LiteralTree
keyword_literal keywords.Null = Some null_literal
keyword_literal keywords.True = Some (truth_literal true)
keyword_literal keywords.False = Some (truth_literal false)
keyword_literal _ = None

-- the literal that a token is
unfoldable pub literal_of : TokenTree → Option LiteralTree
literal_of (keyword_token k) = keyword_literal k
literal_of (number_token word) = Some (number_literal word)
literal_of (string_token bs) = Some (text_literal bs)
literal_of (bytes_token bs) = Some (bytes_literal bs)
literal_of _ = None

-- ---- patterns

-- `like`, and `ilike`, for which letters have no case
abbrev pub like_keyword : Case → Keyword
like_keyword Sensitive = keywords.Like
like_keyword Insensitive = keywords.Ilike

-- the characters before the % that ends a pattern, if it has no other wildcard
abbrev pub before_percent : List Part → Option (List ℕ)
before_percent [] = None
before_percent (literal c ∷ parts) = option_map (λ cs. c ∷ cs) (before_percent parts)
before_percent (any_character ∷ parts) = None
before_percent (any_string ∷ []) = Some []
before_percent (any_string ∷ part ∷ parts) = None

-- the characters of the prefix that a pattern asks for, if it asks for nothing else: for this letters have to have case
abbrev pub prefix_asked : Case → List Part → Option (List ℕ)
prefix_asked Sensitive parts = before_percent parts
prefix_asked Insensitive parts = None

abbrev pub prefix_or : ℕ → Option (List ℕ) → Formula → Formula
prefix_or k None f = f
prefix_or k (Some cs) f = prefix_test k (text_cell (encode_utf8_all cs))

-- whether column k is like a pattern: by its prefix, if this is all that the pattern asks for
abbrev pub like_test : ℕ → Case → List Part → Formula
like_test k case parts = prefix_or k (prefix_asked case parts) (pattern_test k case parts)

-- the same, if the column is one of strings
abbrev pub like_in : ℕ → TypeTree → Case → List Part → Option Formula
like_in k t case parts = if is_utf8_type t then Some (like_test k case parts) else None

-- ---- conditions

-- what is written of a column
pub data Condition : Type 0 where
  -- how it stands to a literal
  compared : CompareOperator → LiteralTree → Condition
  -- that it is null
  missing : Condition
  -- that it is one of these
  listed : List LiteralTree → Condition
  -- that it lies between two
  between : LiteralTree → LiteralTree → Condition
  -- that it begins so
  begun : LiteralTree → Condition
  -- that it is like a pattern
  alike : Case → List Part → Condition
  -- the opposite
  denied : Condition → Condition

-- where literals stand, if each is one of the type
abbrev pub positions_of : TypeTree → List LiteralTree → Option (List PositionTree)
positions_of t [] = Some []
positions_of t (l ∷ ls) = option_and_then (λ p. option_map (λ ps. p ∷ ps) (positions_of t ls)) (position_of t l)

-- what is written of column k, of type t, if its literals are of the type
abbrev pub formula_in : ℕ → TypeTree → Condition → Option Formula
formula_in k t (compared op l) = option_map (comparison_of k op) (position_of t l)
formula_in k t missing = Some (null_test k)
formula_in k t (listed ls) = option_map (member_among k) (positions_of t ls)
formula_in k t (between lower upper) = option_and_then (λ p. option_map (range_of k p) (position_of t upper)) (position_of t lower)
formula_in k t (begun l) = if holds_strings t then option_and_then (prefix_of k) (position_of t l) else None
formula_in k t (alike case parts) = like_in k t case parts
formula_in k t (denied c) = option_map negation (formula_in k t c)
