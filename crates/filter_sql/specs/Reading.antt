-- Reading tokens from the front, as the private functions of the parser do: what is read, and what follows it.
use Rattle.std.specs.Prelude.{◌==◌, ◌++◌, ℕ, zero, suc, Bool, false, List, [], ◌∷◌, Option, Some, None, option_and_then, if◌then◌else◌}
use Rattle.std.specs.Str.{chars}
use Rattle.vortex_dtype.specs.TypeTree.{TypeTree, utf8_type}
use Rattle.like_patterns.specs.declared.case.Case.{Case}
use Rattle.like_patterns.specs.declared.case.Case.TheVariants.{Sensitive, Insensitive}
use Rattle.like_patterns.specs.Texts.{pattern_of}
use Rattle.vortex_cells.specs.Cells.{Cell}
use Rattle.vortex_filter.specs.declared.operator.CompareOperator.{CompareOperator}
use Rattle.filter_sql.specs.declared.print.Level.{Level}
use Rattle.filter_sql.specs.declared.print.Level.TheVariants as levels
use Rattle.filter_sql.specs.declared.token.Keyword.{Keyword}
use Rattle.filter_sql.specs.declared.token.Keyword.TheVariants.{And, Or, Not, In, Is, Null, Between, Like, Ilike, Escape, True, False, StartsWith}
use Rattle.vortex_filter.specs.declared.truth.Truth.TheVariants as truths
use Rattle.filter_sql.specs.ColumnNames.{ColumnTree, column_named}
use Rattle.vortex_filter.specs.Formula.{Formula, constant, null_test, membership, both, either, negation}
use Rattle.vortex_filter.specs.CheckSteps.{holds_strings}
use Rattle.vortex_filter.specs.Literals.{position_of, text_in}
use Rattle.vortex_filter.specs.Positions.{PositionTree, cells_of, comparison_of, member_of, prefix_of, range_of}
use Rattle.filter_sql.specs.Literals.{like_in, literal_of}
use Rattle.filter_sql.specs.Tokens.{TokenTree, keyword_token, name_token, string_token, operator_token, opening, closing, comma}

infixl 10 ◌>>=◌
-- what is read next, if something was
abbrev pub ◌>>=◌ : {A B : Type 0} → Option A → (A → Option B) → Option B
o >>= f = option_and_then f o

-- what comes of a value, or of none
abbrev pub chosen : {A B : Type 0} → Option A → (A → B) → B → B
chosen None f d = d
chosen (Some x) f d = f x

-- ---- single tokens

-- the number of the keyword among the thirteen
abbrev pub keyword_index : Keyword → ℕ
keyword_index And = 0
keyword_index Or = 1
keyword_index Not = 2
keyword_index In = 3
keyword_index Is = 4
keyword_index Null = 5
keyword_index Between = 6
keyword_index Like = 7
keyword_index Ilike = 8
keyword_index Escape = 9
keyword_index True = 10
keyword_index False = 11
keyword_index StartsWith = 12

abbrev pub same_keyword : Keyword → Keyword → Bool
same_keyword k l = keyword_index k == keyword_index l

-- whether the token is this keyword
abbrev pub is_keyword : Keyword → TokenTree → Bool
is_keyword k (keyword_token l) = same_keyword k l
is_keyword k _ = false

-- what follows a keyword, if it comes next
unfoldable pub after_keyword : Keyword → List TokenTree → Option (List TokenTree)
after_keyword k [] = None
after_keyword k (s ∷ ts) = if is_keyword k s then Some ts else None

-- what follows an opening parenthesis, if it comes next
unfoldable pub after_opening : List TokenTree → Option (List TokenTree)
after_opening (opening ∷ ts) = Some ts
after_opening _ = None

unfoldable pub after_closing : List TokenTree → Option (List TokenTree)
after_closing (closing ∷ ts) = Some ts
after_closing _ = None

unfoldable pub after_comma : List TokenTree → Option (List TokenTree)
after_comma (comma ∷ ts) = Some ts
after_comma _ = None

-- the operator that comes next, and what follows it
unfoldable pub operator_at : List TokenTree → Option (CompareOperator × List TokenTree)
operator_at (operator_token op ∷ ts) = Some (op, ts)
operator_at _ = None

unfoldable pub name_at : List TokenTree → Option (List ℕ × List TokenTree)
name_at (name_token bs ∷ ts) = Some (bs, ts)
name_at _ = None

unfoldable pub string_at : List TokenTree → Option (List ℕ × List TokenTree)
string_at (string_token bs ∷ ts) = Some (bs, ts)
string_at _ = None

-- ---- literals

-- where a token stands as a literal of a type
unfoldable pub token_position : TypeTree → TokenTree → Option PositionTree
token_position t x = literal_of x >>= position_of t

-- what stands there, and what follows it
abbrev pub position_then : Option PositionTree → List TokenTree → Option (PositionTree × List TokenTree)
position_then None ts = None
position_then (Some p) ts = Some (p, ts)

-- where the literal that comes next stands, and what follows it
unfoldable pub position_at : TypeTree → List TokenTree → Option (PositionTree × List TokenTree)
position_at t [] = None
position_at t (x ∷ ts) = position_then (token_position t x) ts

-- a literal among others, and those after it
abbrev pub preceded : Option PositionTree → Option (List Cell × List TokenTree) → Option (List Cell × List TokenTree)
preceded None r = None
preceded (Some p) None = None
preceded (Some p) (Some x) = Some (cells_of (p ∷ []) ++ x.0, x.1)

-- the cells of the literals behind the first, up to the closing parenthesis
unfoldable pub more_cells : TypeTree → List TokenTree → Option (List Cell × List TokenTree)
more_cells t (closing ∷ ts) = Some ([], ts)
more_cells t (comma ∷ x ∷ ts) = preceded (token_position t x) (more_cells t ts)
more_cells t _ = None

unfoldable pub cells_at : TypeTree → List TokenTree → Option (List Cell × List TokenTree)
cells_at t [] = None
cells_at t (x ∷ ts) = preceded (token_position t x) (more_cells t ts)

-- what was read before, and what is still read
abbrev pub with_front : List Cell → Option (List Cell × List TokenTree) → Option (List Cell × List TokenTree)
with_front front None = None
with_front front (Some x) = Some (front ++ x.0, x.1)

-- ---- tests

abbrev pub Read : Type 0
Read = Option (Formula × List TokenTree)

-- the tests behind `in`
abbrev pub members_from : ℕ → TypeTree → List TokenTree → Option (List TokenTree) → Read
members_from k t ts None = cells_at t ts >>= λ x. Some (member_of k x.0, x.1)
members_from k t ts (Some us) = Some (membership k [], us)

unfoldable pub members_at : ℕ → TypeTree → List TokenTree → Read
members_at k t ts = after_opening ts >>= λ us. members_from k t us (after_closing us)

unfoldable pub range_at : ℕ → TypeTree → List TokenTree → Read
range_at k t ts = do
  lower ← position_at t ts
  us ← after_keyword And lower.1
  upper ← position_at t us
  Some (range_of k lower.0 upper.0, upper.1)

-- the character, if there is just one
abbrev pub only_one : List ℕ → Option ℕ
only_one [] = None
only_one (c ∷ []) = Some c
only_one (c ∷ d ∷ cs) = None

-- the escape that a string is, and what follows it
abbrev pub escape_then : Option ℕ → List TokenTree → Option (Option ℕ × List TokenTree)
escape_then None ts = None
escape_then (Some c) ts = Some (Some c, ts)

-- the escape that comes next, or none, and what follows
unfoldable pub escape_at : List TokenTree → Option (Option ℕ × List TokenTree)
escape_at ts = chosen (after_keyword Escape ts) (λ us. string_at us >>= λ x. escape_then (only_one (chars x.0)) x.1) (Some (None, ts))

-- a string in a column of strings
abbrev pub string_in : TypeTree → List ℕ → Option PositionTree
string_in (utf8_type n) bs = text_in (utf8_type n) bs
string_in _ bs = None

-- the test behind `like` or `ilike`
unfoldable pub like_at : ℕ → TypeTree → Case → List TokenTree → Read
like_at k t case ts = do
  pattern ← string_at ts
  escape ← escape_at pattern.1
  parts ← pattern_of escape.0 (chars pattern.0)
  f ← like_in k t case parts
  Some (f, escape.1)

unfoldable pub test_at : ℕ → TypeTree → List TokenTree → Read
test_at k t ts = chosen (after_keyword In ts) (members_at k t) (chosen (after_keyword Between ts) (range_at k t) (chosen (after_keyword Ilike ts) (like_at k t Insensitive) (after_keyword Like ts >>= like_at k t Sensitive)))

unfoldable pub comparison_at : ℕ → TypeTree → CompareOperator → List TokenTree → Read
comparison_at k t op ts = position_at t ts >>= λ x. Some (comparison_of k op x.0, x.1)

-- what follows `is`
unfoldable pub null_test_at : ℕ → List TokenTree → Read
null_test_at k ts = chosen (after_keyword Not ts) (λ us. after_keyword Null us >>= λ vs. Some (negation (null_test k), vs)) (after_keyword Null ts >>= λ us. Some (null_test k, us))

abbrev pub negated : Read → Read
negated None = None
negated (Some x) = Some (negation x.0, x.1)

-- what follows the column's name
unfoldable pub condition_at : ℕ → TypeTree → List TokenTree → Read
condition_at k t ts = chosen (operator_at ts) (λ x. comparison_at k t x.0 x.1) (chosen (after_keyword Is ts) (null_test_at k) (chosen (after_keyword Not ts) (λ us. negated (test_at k t us)) (test_at k t ts)))

-- ---- predicates

abbrev pub condition_of : Option (ℕ × TypeTree) → List TokenTree → Read
condition_of None ts = None
condition_of (Some c) ts = condition_at c.0 c.1 ts

unfoldable pub prefix_in : ℕ × TypeTree → PositionTree → Option Formula
prefix_in c p = if holds_strings c.1 then prefix_of c.0 p else None

unfoldable pub prefix_call_at : List ColumnTree → List TokenTree → Read
prefix_call_at columns ts = do
  us ← after_opening ts
  name ← name_at us
  column ← column_named columns name.0
  vs ← after_comma name.1
  prefix ← position_at column.1 vs
  ws ← after_closing prefix.1
  f ← prefix_in column prefix.0
  Some (f, ws)

unfoldable pub constant_at : List TokenTree → Read
constant_at (keyword_token True ∷ ts) = Some (constant truths.True, ts)
constant_at (keyword_token False ∷ ts) = Some (constant truths.False, ts)
constant_at (keyword_token Null ∷ ts) = Some (constant truths.Unknown, ts)
constant_at _ = None

unfoldable pub predicate_at : List ColumnTree → List TokenTree → Read
predicate_at columns ts = chosen (name_at ts) (λ x. condition_of (column_named columns x.0) x.1) (chosen (after_keyword StartsWith ts) (prefix_call_at columns) (constant_at ts))

-- ---- filters

-- a filter and a right operand
abbrev pub joined : (Formula → Formula → Formula) → Formula → Read → Read
joined join f None = None
joined join f (Some x) = Some (join f x.0, x.1)

-- a filter, and a right operand if the operator comes next
abbrev pub continued : (Formula → Formula → Formula) → (List TokenTree → Read) → Formula → List TokenTree → Option (List TokenTree) → Read
continued join right f ts None = Some (f, ts)
continued join right f ts (Some us) = joined join f (right us)

abbrev pub closed_by : Formula → Option (List TokenTree) → Read
closed_by f None = None
closed_by f (Some ts) = Some (f, ts)

abbrev pub closed : Read → Read
closed None = None
closed (Some x) = closed_by x.0 (after_closing x.1)

module _ (predicate : List TokenTree → Read) where
  unfoldable pub group_of : (Level → List TokenTree → Read) → List TokenTree → Option (List TokenTree) → Read
  group_of inner ts None = predicate ts
  group_of inner ts (Some us) = closed (inner levels.Or us)

  unfoldable pub operand_from : (Level → List TokenTree → Read) → List TokenTree → Option (List TokenTree) → Read
  operand_from inner ts None = group_of inner ts (after_opening ts)
  operand_from inner ts (Some us) = negated (inner levels.Not us)

  unfoldable pub operand_of : (Level → List TokenTree → Read) → List TokenTree → Read
  operand_of inner ts = operand_from inner ts (after_keyword Not ts)

  unfoldable pub and_from : (Level → List TokenTree → Read) → Read → Read
  and_from inner None = None
  and_from inner (Some x) = continued both (inner levels.And) x.0 x.1 (after_keyword And x.1)

  unfoldable pub conjunction_of : (Level → List TokenTree → Read) → List TokenTree → Read
  conjunction_of inner ts = and_from inner (operand_of inner ts)

  unfoldable pub or_from : (Level → List TokenTree → Read) → Read → Read
  or_from inner None = None
  or_from inner (Some x) = continued either (inner levels.Or) x.0 x.1 (after_keyword Or x.1)

  unfoldable pub disjunction_of : (Level → List TokenTree → Read) → List TokenTree → Read
  disjunction_of inner ts = or_from inner (conjunction_of inner ts)

  unfoldable pub read_at : (Level → List TokenTree → Read) → Level → List TokenTree → Read
  read_at inner levels.Or ts = disjunction_of inner ts
  read_at inner levels.And ts = conjunction_of inner ts
  read_at inner levels.Not ts = operand_of inner ts

  -- a filter of a level, within which fewer than n operators and parentheses nest
  unfoldable pub reads : ℕ → Level → List TokenTree → Read
  reads zero level ts = None
  reads (suc n) level ts = read_at (reads n) level ts

-- a filter, if nothing follows it
abbrev pub ended : Formula → List TokenTree → Option Formula
ended f [] = Some f
ended f (t ∷ ts) = None

abbrev pub ended_read : Read → Option Formula
ended_read None = None
ended_read (Some x) = ended x.0 x.1

-- the filter that all of the tokens are, within which at most n connectives and parentheses nest
unfoldable pub filter_at : List ColumnTree → ℕ → List TokenTree → Option Formula
filter_at columns n ts = ended_read (disjunction_of (predicate_at columns) (reads (predicate_at columns) n) ts)
