-- When a text is a filter, when it is refused, and which filters are read from their own text.
use Rattle.std.specs.Prelude.{◌≡◌, ◌⊎◌, ◌<◌, ℕ, ℤ, suc, max, true, false, Bool, List, map, Result, MatchResult, None, Some, slice_get}
use Rattle.std.specs.List.{AllByRecursion}
use Rattle.std.specs.Str.{IsUtf8, all_scalars}
use Rattle.vortex_dtype.specs.declared.nullability.Nullability.{Nullability}
use Rattle.vortex_dtype.specs.TypeTree.{TypeTree, bool_type, integer_type, utf8_type, binary_type, extension_type}
use Rattle.vortex_pvalue.specs.Numbers.{InRange}
use Rattle.vortex_value.specs.TypesWithin.{HasNoVariant}
use Rattle.vortex_cells.specs.Cells.{Cell}
use Rattle.like_patterns.specs.declared.case.Case.{Case}
use Rattle.like_patterns.specs.Patterns.{Part}
use Rattle.like_patterns.specs.Texts.{pattern_text}
use Rattle.vortex_filter.specs.declared.filter.Filter.{Filter}
use Rattle.filter_sql.specs.declared.error.ParseError.{ParseError}
use Rattle.filter_sql.specs.declared.error.ParseError.TheVariants as errors
use Rattle.filter_sql.specs.declared.lex.Ending.{Ending}
use Rattle.filter_sql.specs.declared.print.Level.{Level}
use Rattle.filter_sql.specs.declared.print.Level.TheVariants as levels
use Rattle.filter_sql.specs.ColumnNames.{ColumnTree, column_named}
use Rattle.vortex_filter.specs.Formula.{Formula, formula, constant, comparison, null_test, membership, range, prefix_test, pattern_test, both, either, negation}
use Rattle.filter_sql.specs.Grammar.{IsFilter}
use Rattle.filter_sql.specs.Literals.{prefix_asked}
use Rattle.vortex_filter.specs.CheckSteps.{holds_strings}
use Rattle.vortex_filter.specs.Literals.{null_cell, truth_cell, number_cell, text_cell, bytes_cell}
use Rattle.logical_types.specs.declared.logical.LogicalType.{LogicalType}
use Rattle.vortex_filter.specs.LogicalValues.{IsLogicalValue}
use Rattle.filter_sql.specs.Mistakes.{error_of, filter_mistake}
use Rattle.filter_sql.specs.Printing.{column_name, groups_and, groups_or}
use Rattle.filter_sql.specs.Texts.{Item, AreItemsOf, EndsAt}
use Rattle.filter_sql.specs.Tokens.{TokenTree}

-- how many connectives and parentheses may nest in a text, if nobody says
abbrev pub nesting : ℕ
nesting = 256

abbrev pub tokens_in : List Item → List TokenTree
tokens_in items = map (λ (i : Item). i.token) items

-- the text is a filter with this formula, in which at most so many connectives and parentheses nest
pub record IsSqlWithin (room : ℕ) (columns : List ColumnTree) (sql : List ℕ) (f : Formula) : Type 0 where
  pub items : List Item
  pub are : AreItemsOf sql items
  pub means : IsFilter columns levels.Or room (tokens_in items) f

-- The text is no filter in which at most so many nest: the text ends with its tokens, and they are none, or it goes on
-- where no token begins. And e tells the first mistake, at its offset: that of the tokens if it is at one of them, or
-- that no token begins behind them.
pub record IsNoSqlWithin (room : ℕ) (columns : List ColumnTree) (sql : List ℕ) (e : ParseError) : Type 0 where
  pub items : List Item
  pub ending : Ending
  pub ends : EndsAt sql items ending
  pub none : ending.fault ≡ None → (f : Formula) → IsFilter columns levels.Or room (tokens_in items) f → ⊥
  pub told : e ≡ error_of items ending (filter_mistake columns room (tokens_in items))

-- when a text in which so many may nest is refused so: memory ran out, or it is no filter, and this is its first
-- mistake
abbrev pub RefusesSqlWithin : ℕ → List ColumnTree → List ℕ → ParseError → Type 0
RefusesSqlWithin room columns sql errors.OutOfMemory = Unit {0}
RefusesSqlWithin room columns sql e = IsNoSqlWithin room columns sql e

-- the text is a filter with this formula
abbrev pub IsSql : List ColumnTree → List ℕ → Formula → Type 0
IsSql = IsSqlWithin nesting

-- when a text is refused so
abbrev pub RefusesSql : List ColumnTree → List ℕ → ParseError → Type 0
RefusesSql = RefusesSqlWithin nesting

-- the filter with this formula, unless memory ran out
abbrev pub ReadsAs : Formula → Result Filter ParseError → Type 0
ReadsAs f result = MatchResult result (λ filter. formula filter ≡ f) (λ e. e ≡ errors.OutOfMemory)

-- the types of columns
abbrev pub types_of : List ColumnTree → List TypeTree
types_of columns = map (λ (c : ColumnTree). c.typed) columns

-- no variant stands in the type of a column
abbrev pub AllOrdered : List ColumnTree → Type 0
AllOrdered columns = (k : ℕ) (t : TypeTree) → slice_get (types_of columns) k ≡ Some t → HasNoVariant t

-- ---- what is read from its own text

-- a value as SQL has literals for in a column of the type
abbrev pub IsValueLiteral : TypeTree → Cell → Type 0
IsValueLiteral (bool_type n) x = (b : Bool) × (x ≡ truth_cell b)
IsValueLiteral (integer_type k n) x = (z : ℤ) × InRange k z × (x ≡ number_cell k z)
IsValueLiteral (utf8_type n) x = (bs : List ℕ) × IsUtf8 bs × (x ≡ text_cell bs)
IsValueLiteral (binary_type n) x = (bs : List ℕ) × AllByRecursion (λ b. b < 256) bs × (x ≡ bytes_cell bs)
IsValueLiteral (extension_type id metadata u) x = (x.typed ≡ extension_type id metadata u) × (logical : LogicalType) × (z : ℤ) × IsLogicalValue logical z x
IsValueLiteral _ x = ⊥

-- a null of the type, or such a value
abbrev pub IsLiteral : TypeTree → Cell → Type 0
IsLiteral t x = (x ≡ null_cell t) ⊎ IsValueLiteral t x

-- column k is found by its name, and is of this type
abbrev pub IsFound : List ColumnTree → List (List ℕ) → ℕ → TypeTree → Type 0
IsFound columns names k t = column_named columns (column_name names k) ≡ Some (k, t)

-- the pattern is of Unicode scalar values, and asks for more than a prefix, which is read as one
pub record IsMoreThanPrefix (case : Case) (parts : List Part) : Type 0 where
  pub scalars : all_scalars (pattern_text parts) ≡ true
  pub no_prefix : prefix_asked case parts ≡ None

-- each column is found by its name, and each literal is one of its column's type
abbrev pub IsReadable : List ColumnTree → List (List ℕ) → Formula → Type 0
IsReadable columns names (constant t) = Unit {0}
IsReadable columns names (comparison k op x) = (t : TypeTree) × IsFound columns names k t × IsLiteral t x
IsReadable columns names (null_test k) = (t : TypeTree) × IsFound columns names k t
IsReadable columns names (membership k xs) = (t : TypeTree) × IsFound columns names k t × AllByRecursion (IsLiteral t) xs
IsReadable columns names (range k x y) = (t : TypeTree) × IsFound columns names k t × IsLiteral t x × IsLiteral t y
IsReadable columns names (prefix_test k x) = (t : TypeTree) × IsFound columns names k t × (holds_strings t ≡ true) × IsLiteral t x
IsReadable columns names (pattern_test k case parts) = (n : Nullability) × IsFound columns names k (utf8_type n) × IsMoreThanPrefix case parts
IsReadable columns names (both p q) = IsReadable columns names p × IsReadable columns names q
IsReadable columns names (either p q) = IsReadable columns names p × IsReadable columns names q
IsReadable columns names (negation p) = IsReadable columns names p

-- ---- how deep a printed filter nests

abbrev pub grouped_depth : Bool → ℕ → ℕ
grouped_depth true n = suc n
grouped_depth false n = n

-- how many connectives and parentheses nest in the text of a formula, in a place where this level may stand bare
abbrev pub depth_at : Level → Formula → ℕ
depth_at level (both p q) = grouped_depth (groups_and level) (max (suc (depth_at levels.And q)) (depth_at levels.Not p))
depth_at level (either p q) = grouped_depth (groups_or level) (max (suc (depth_at levels.Or q)) (depth_at levels.And p))
depth_at level (negation (null_test k)) = 0
depth_at level (negation (membership k xs)) = 0
depth_at level (negation (range k x y)) = 0
depth_at level (negation p) = suc (depth_at levels.Not p)
depth_at level _ = 0

abbrev pub depth : Formula → ℕ
depth f = depth_at levels.Or f
