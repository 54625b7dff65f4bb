-- What is wrong with tokens of which nothing is read: the first mistake from the front, and how many tokens are left there.
use Rattle.std.specs.Prelude.{◌≡◌, ◌==◌, ◌-◌, ℕ, zero, suc, Bool, true, false, is_some, List, [], ◌∷◌, length, Option, Some, None, Result, Ok, Err, if◌then◌else◌, slice_get}
use Rattle.std.specs.Str.{chars}
use Rattle.vortex_dtype.specs.TypeTree.{TypeTree, bool_type, integer_type, utf8_type, binary_type, extension_type}
use Rattle.filter_sql.specs.declared.error.Expected.{Expected}
use Rattle.filter_sql.specs.declared.error.Expected.TheVariants as expects
use Rattle.filter_sql.specs.declared.error.ParseError.{ParseError}
use Rattle.filter_sql.specs.declared.error.ParseError.TheVariants as errors
use Rattle.filter_sql.specs.declared.lex.Ending.{Ending}
use Rattle.filter_sql.specs.declared.lex.LexError.{LexError as Unread}
use Rattle.filter_sql.specs.declared.parsing.errors.Cause.{Cause}
use Rattle.filter_sql.specs.declared.parsing.errors.Cause.TheVariants as causes
use Rattle.filter_sql.specs.declared.parsing.errors.TokenError.{TokenError}
use Rattle.filter_sql.specs.declared.parsing.errors.TokenError.TheVariants as faults
use Rattle.filter_sql.specs.declared.print.Level.{Level}
use Rattle.filter_sql.specs.declared.print.Level.TheVariants as levels
use Rattle.filter_sql.specs.declared.token.Keyword.TheVariants as keywords
use Rattle.vortex_filter.specs.declared.filter.Filter.{Filter}
use Rattle.like_patterns.specs.Texts.{pattern_of}
use Rattle.filter_sql.specs.ColumnNames.{ColumnTree, column_named}
use Rattle.filter_sql.specs.Lexing.{fault_at}
use Rattle.logical_scalars.specs.TypeShapes.{shape_in}
use Rattle.logical_types.specs.Shapes.{Shape, float64, float32, decimals}
use Rattle.vortex_filter.specs.Literals.{LiteralTree, number_literal}
use Rattle.vortex_filter.specs.Positions.{PositionTree}
use Rattle.filter_sql.specs.Literals.{literal_of}
use Rattle.filter_sql.specs.Reading.{Read, after_closing, after_comma, after_keyword, after_opening, chosen, conjunction_of, disjunction_of, escape_at, name_at, operand_of, operator_at, position_at, predicate_at, reads, string_at, token_position}
use Rattle.filter_sql.specs.Texts.{Item}
use Rattle.filter_sql.specs.Tokens.{TokenTree, comma}

-- ---- what a function gave, and what reading gives

-- What fails for want of memory says nothing. Else nothing is read, and the mistake is told.
abbrev pub Fails : {Y : Type 0} → TokenError → Option Y → TokenError → Type 0
Fails faults.NoMemory read mistake = Unit {0}
Fails (faults.At left cause) read mistake = (read ≡ None) × (mistake ≡ faults.At left cause)

-- what a function returned, seen by view, is what reading gives; if it fails, nothing is read, and it tells the mistake, unless
-- memory ran out
abbrev pub Gives : {X Y : Type 0} → (X → Y) → Result X TokenError → Option Y → TokenError → Type 0
Gives view (Ok x) read mistake = read ≡ Some (view x)
Gives view (Err e) read mistake = Fails e read mistake

-- ---- single tokens

-- something else had to come next
abbrev pub expected : List TokenTree → Expected → TokenError
expected ts what = faults.At (length ts) (causes.Expected what)

-- too many connectives and parentheses nest
abbrev pub too_deep : List TokenTree → TokenError
too_deep ts = faults.At (length ts) causes.TooDeep

-- why a literal is none of an extension: whether this is a logical type, which has literals but `null`
abbrev pub extension_cause : TypeTree → Cause
extension_cause t = if is_some (shape_in t) then causes.TypesDiffer else causes.NoLiteral

-- why a literal of another kind is none of the type: whether the type has literals but `null`
abbrev pub other_type : TypeTree → Cause
other_type (bool_type n) = causes.TypesDiffer
other_type (integer_type k n) = causes.TypesDiffer
other_type (utf8_type n) = causes.TypesDiffer
other_type (binary_type n) = causes.TypesDiffer
other_type (extension_type id metadata u) = extension_cause (extension_type id metadata u)
other_type _ = causes.NoLiteral

-- whether the values of a logical type are numbers
abbrev pub is_numeric : Shape → Bool
is_numeric float64 = true
is_numeric float32 = true
is_numeric (decimals precision scale) = true
is_numeric _ = false

-- whether the type is a logical one of numbers
abbrev pub is_numeric_type : TypeTree → Bool
is_numeric_type t = chosen (shape_in t) is_numeric false

-- whether numbers are written in a column of the type
abbrev pub holds_numbers : TypeTree → Bool
holds_numbers (integer_type k n) = true
holds_numbers (extension_type id metadata u) = is_numeric_type (extension_type id metadata u)
holds_numbers _ = false

-- why a number is none of the type: it is too long, or has an exponent, where numbers are written; or else of another type
abbrev pub number_cause : TypeTree → Cause
number_cause t = if holds_numbers t then causes.NumberTooLong else other_type t

-- why a literal is none of the type
abbrev pub refusal : TypeTree → LiteralTree → Cause
refusal t (number_literal word) = number_cause t
refusal t _ = other_type t

-- why a token is no literal of the type: it is one of other types, or none
abbrev pub literal_cause : TypeTree → TokenTree → Cause
literal_cause t x = chosen (literal_of x) (refusal t) (causes.Expected expects.Literal)

unfoldable pub literal_mistake : TypeTree → List TokenTree → TokenError
literal_mistake t [] = expected [] expects.Literal
literal_mistake t (x ∷ ts) = faults.At (length (x ∷ ts)) (literal_cause t x)

-- ---- tests

-- what is wrong later if there is a literal, else what is wrong with it
abbrev pub behind_literal : Option PositionTree → TokenError → TokenError → TokenError
behind_literal None later here = here
behind_literal (Some l) later here = later

-- behind the first literal in parentheses
unfoldable pub more_mistake : TypeTree → List TokenTree → TokenError
more_mistake t (comma ∷ []) = literal_mistake t []
more_mistake t (comma ∷ x ∷ ts) = behind_literal (token_position t x) (more_mistake t ts) (literal_mistake t (x ∷ ts))
more_mistake t ts = expected ts expects.Closing

unfoldable pub cells_mistake : TypeTree → List TokenTree → TokenError
cells_mistake t ts = chosen (position_at t ts) (λ x. more_mistake t x.1) (literal_mistake t ts)

-- behind `in`
unfoldable pub members_mistake : TypeTree → List TokenTree → TokenError
members_mistake t ts = chosen (after_opening ts) (cells_mistake t) (expected ts expects.Opening)

-- behind `between`
unfoldable pub range_mistake : TypeTree → List TokenTree → TokenError
range_mistake t ts =
    chosen (position_at t ts)
    (λ lower. chosen (after_keyword keywords.And lower.1) (literal_mistake t) (expected lower.1 expects.And))
    (literal_mistake t ts)

-- behind a pattern
unfoldable pub escape_mistake : List TokenTree → TokenError
escape_mistake ts = chosen (after_keyword keywords.Escape ts) (λ us. expected us expects.Escape) (expected ts expects.Escape)

-- behind `like` or `ilike`: a pattern that its escape ends, or that no string of the column is compared with, is told at its
-- offset, once the escape is known
unfoldable pub like_mistake : TypeTree → List TokenTree → TokenError
like_mistake t ts =
    chosen (string_at ts)
    (λ pattern. chosen (escape_at pattern.1)
    (λ escape. chosen (pattern_of escape.0 (chars pattern.0)) (λ parts. faults.At (length ts) (other_type t)) (expected ts expects.Pattern))
    (escape_mistake pattern.1))
    (expected ts expects.Pattern)

unfoldable pub test_mistake : TypeTree → List TokenTree → TokenError
test_mistake t ts =
    chosen (after_keyword keywords.In ts) (members_mistake t)
    (chosen (after_keyword keywords.Between ts) (range_mistake t)
    (chosen (after_keyword keywords.Ilike ts) (like_mistake t)
    (chosen (after_keyword keywords.Like ts) (like_mistake t) (expected ts expects.Operator))))

-- behind `is`
unfoldable pub null_test_mistake : List TokenTree → TokenError
null_test_mistake ts = chosen (after_keyword keywords.Not ts) (λ us. expected us expects.Null) (expected ts expects.Null)

-- behind the column's name
unfoldable pub condition_mistake : TypeTree → List TokenTree → TokenError
condition_mistake t ts =
    chosen (operator_at ts) (λ x. literal_mistake t x.1)
    (chosen (after_keyword keywords.Is ts) null_test_mistake
    (chosen (after_keyword keywords.Not ts) (test_mistake t) (test_mistake t ts)))

-- ---- predicates

-- behind `starts_with`; a column that holds neither strings nor bytes is told where the literal stands
unfoldable pub prefix_call_mistake : List ColumnTree → List TokenTree → TokenError
prefix_call_mistake columns ts =
    chosen (after_opening ts)
    (λ us. chosen (name_at us)
    (λ name. chosen (column_named columns name.0)
    (λ column. chosen (after_comma name.1)
    (λ vs. chosen (position_at column.1 vs)
    (λ prefix. chosen (after_closing prefix.1) (λ ws. faults.At (length vs) causes.TypesDiffer) (expected prefix.1 expects.Closing))
    (literal_mistake column.1 vs))
    (expected name.1 expects.Comma))
    (faults.At (length us) causes.NoColumn))
    (expected us expects.Column))
    (expected ts expects.Opening)

unfoldable pub predicate_mistake : List ColumnTree → List TokenTree → TokenError
predicate_mistake columns ts =
    chosen (name_at ts)
    (λ x. chosen (column_named columns x.0) (λ c. condition_mistake c.1 x.1) (faults.At (length ts) causes.NoColumn))
    (chosen (after_keyword keywords.StartsWith ts) (prefix_call_mistake columns) (expected ts expects.Filter))

-- ---- filters

-- what is wrong with what was read, or behind it
abbrev pub behind_read : Read → (List TokenTree → TokenError) → TokenError → TokenError
behind_read None behind here = here
behind_read (Some x) behind here = behind x.1

module _ (predicate : List TokenTree → Read) (mistake : List TokenTree → TokenError) where
  -- a filter in parentheses: its own mistake, or that they do not close
  unfoldable pub group_mistake : (Level → List TokenTree → Read) → (Level → List TokenTree → TokenError) → List TokenTree → TokenError
  group_mistake inner wrong us = behind_read (inner levels.Or us) (λ vs. expected vs expects.Closing) (wrong levels.Or us)

  unfoldable pub operand_mistake : (Level → List TokenTree → Read) → (Level → List TokenTree → TokenError) → List TokenTree → TokenError
  operand_mistake inner wrong ts =
      chosen (after_keyword keywords.Not ts) (wrong levels.Not) (chosen (after_opening ts) (group_mistake inner wrong) (mistake ts))

  -- its left operand's, or that of what stands behind the connective
  unfoldable pub conjunction_mistake : (Level → List TokenTree → Read) → (Level → List TokenTree → TokenError) → List TokenTree → TokenError
  conjunction_mistake inner wrong ts =
      behind_read (operand_of predicate inner ts) (λ us. chosen (after_keyword keywords.And us) (wrong levels.And) (expected us expects.End)) (operand_mistake inner wrong ts)

  unfoldable pub disjunction_mistake : (Level → List TokenTree → Read) → (Level → List TokenTree → TokenError) → List TokenTree → TokenError
  disjunction_mistake inner wrong ts =
      behind_read (conjunction_of predicate inner ts) (λ us. chosen (after_keyword keywords.Or us) (wrong levels.Or) (expected us expects.End)) (conjunction_mistake inner wrong ts)

  unfoldable pub mistake_at : (Level → List TokenTree → Read) → (Level → List TokenTree → TokenError) → Level → List TokenTree → TokenError
  mistake_at inner wrong levels.Or ts = disjunction_mistake inner wrong ts
  mistake_at inner wrong levels.And ts = conjunction_mistake inner wrong ts
  mistake_at inner wrong levels.Not ts = operand_mistake inner wrong ts

  -- of a filter of a level, within which fewer than n connectives and parentheses nest
  unfoldable pub mistakes : ℕ → Level → List TokenTree → TokenError
  mistakes zero level ts = too_deep ts
  mistakes (suc n) level ts = mistake_at (reads predicate n) (mistakes n) level ts

-- of tokens that are no filter within which at most n connectives and parentheses nest: what is wrong, or that they do not end
unfoldable pub filter_mistake : List ColumnTree → ℕ → List TokenTree → TokenError
filter_mistake columns n ts =
    behind_read (disjunction_of (predicate_at columns) (reads (predicate_at columns) n) ts) (λ us. expected us expects.End)
    (disjunction_mistake (predicate_at columns) (predicate_mistake columns) (reads (predicate_at columns) n) (mistakes (predicate_at columns) (predicate_mistake columns) n) ts)

-- ---- mistakes of a text

-- the error of a cause at an offset
abbrev pub caused : ℕ → Cause → ParseError
caused place (causes.Expected what) = errors.Expected place what
caused place causes.NoColumn = errors.NoColumn place
caused place causes.TypesDiffer = errors.TypesDiffer place
caused place causes.NoLiteral = errors.NoLiteral place
caused place causes.NumberTooLong = errors.NumberTooLong place
caused place causes.TooDeep = errors.TooDeep place

-- the offset of the token where so many are left, or the end
abbrev pub place_where : List Item → ℕ → ℕ → ℕ
place_where items end left = chosen (slice_get items (length items - left)) (λ (i : Item). i.place) end

-- The error of a mistake where so many tokens are left. Behind the last token it is that no token begins there, unless the
-- text ends.
abbrev pub error_at : List Item → ℕ → Option Unread → ℕ → Cause → ParseError
error_at items end None left cause = caused (place_where items end left) cause
error_at items end (Some fault) left cause = if left == 0 then fault_at fault end else caused (place_where items end left) cause

-- the error of a fault in a text whose tokens these are, and end so
abbrev pub error_of : List Item → Ending → TokenError → ParseError
error_of items ending faults.NoMemory = errors.OutOfMemory
error_of items ending (faults.At left cause) = error_at items ending.place ending.fault left cause

-- the filter that tokens are, if the text ends with them
abbrev pub if_whole : ℕ → Option Unread → Filter → Result Filter ParseError
if_whole end None filter = Ok filter
if_whole end (Some fault) filter = Err (fault_at fault end)

-- an error that came for want of memory, or with the mistake and its offset; if the text ends with the tokens, nothing is read of
-- them
abbrev pub IsFaultIn : {Y : Type 0} → List Item → Ending → Option Y → TokenError → ParseError → Type 0
IsFaultIn items ending read mistake errors.OutOfMemory = Unit {0}
IsFaultIn items ending read mistake e = (ending.fault ≡ None → read ≡ None) × (e ≡ error_of items ending mistake)
