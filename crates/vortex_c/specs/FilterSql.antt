-- What callers are told of filters that are prepared from SQL's words.
use Rattle.std.specs.Prelude.{◌≡◌, ◌≢◌, ◌⊎◌, ℕ, ◌+◌, ◌-◌, ◌*◌, ◌^◌, ◌<◌, min, List, length, map, slice_get, Option, Some, None, MatchResult, Result, Vec, unwrap_or}
use Rattle.std.specs.Global.{Global}
use Rattle.std.specs.Str.{IsUtf8}
use Rattle.arrow_columns.specs.Kinds.{kind_with}
use Rattle.arrow_columns.specs.declared.kinds.Kind.{Kind}
use Rattle.column_cells.specs.Types.{type_at}
use Rattle.filter_encoding.specs.Encoding.{CanBeWritten, HasEncoding, Prepared, encoding}
use Rattle.vortex_dtype.specs.TypeTree.{TypeTree}
use Rattle.filter_sql.specs.ColumnNames.{ColumnTree}
use Rattle.filter_sql.specs.Faults.{IsPlaced, place_of}
use Rattle.vortex_filter.specs.Formula.{Formula}
use Rattle.filter_sql.specs.Parsing.{IsSqlWithin, RefusesSqlWithin}
use Rattle.filter_sql.specs.declared.error.Expected.{Expected}
use Rattle.filter_sql.specs.declared.error.Expected.TheVariants.{And, Closing, Column, Comma, End, Escape, Filter, Literal, Null, Opening, Operator, Pattern}
use Rattle.filter_sql.specs.declared.error.ParseError.{ParseError}
use Rattle.filter_sql.specs.declared.error.ParseError.TheVariants as errors
use Rattle.vortex_c.specs.declared.sql.Mistake.{Mistake}
use Rattle.vortex_c.specs.declared.sql.NamedKind.{NamedKind}
use Rattle.vortex_c.specs.declared.sql.SqlError.{SqlError}
use Rattle.vortex_c.specs.declared.sql.SqlError.TheVariants.{NameNotUtf8, NoFilter, NoEncoding, NotAKind, NotUtf8, OutOfMemory}
use Rattle.vortex_c.specs.declared.status.TheConstants.{BAD_FILTER, NO_MEMORY, NOT_UTF8, UNKNOWN_KIND}

-- ---- columns by name and kind

-- the kind of a column, by its codes
abbrev pub kind_of_named : NamedKind → Option Kind
kind_of_named column = kind_with column.kind column.precision column.scale

-- a column by its name and its type; of no kind, that of nulls
abbrev pub tree_of_kind : NamedKind → ColumnTree
tree_of_kind column = record { name = column.name.now; typed = type_at (kind_of_named column) }

abbrev pub trees_of_kinds : List NamedKind → List ColumnTree
trees_of_kinds columns = map tree_of_kind columns

abbrev pub types_of_kinds : List NamedKind → List TypeTree
types_of_kinds columns = map (λ (column : NamedKind). type_at (kind_of_named column)) columns

-- the code is of a kind, and the name is UTF-8
pub record IsNamed (column : NamedKind) : Type 0 where
  pub kind : kind_of_named column ≢ None
  pub name : IsUtf8 column.name.now

-- the first columns are so
abbrev pub AreNamedBefore : List NamedKind → ℕ → Type 0
AreNamedBefore columns k = (j : ℕ) (column : NamedKind) → j < k → slice_get columns j ≡ Some column → IsNamed column

-- all columns are so
abbrev pub AreNamed : List NamedKind → Type 0
AreNamed columns = AreNamedBefore columns (length columns)

-- ---- prepared filters

-- the formula with the types of the columns
abbrev pub prepared_of : List NamedKind → Formula → Prepared
prepared_of columns f = record { types = types_of_kinds columns; filter = f }

-- how many connectives nest at most in an encoding if n connectives and parentheses nest in the words: a test nests none in
-- these and up to 4 in that, and so does the left one of two operands. More than 64 bits count is never asked for.
abbrev pub encoding_depth : ℕ → ℕ
encoding_depth n = min (2 * n + 5) (2 ^ 64 - 1)

-- the bytes are the encoding of the filter that the words are, over these columns. At most n connectives and parentheses nest in
-- the words. The encoding can be read back.
pub record IsPreparedFrom (n : ℕ) (words : List ℕ) (columns : List NamedKind) (bytes : List ℕ) : Type 0 where
  pub named : AreNamed columns
  pub filter : Formula
  pub means : IsSqlWithin n (trees_of_kinds columns) words filter
  pub written : HasEncoding (encoding_depth n) (prepared_of columns filter)
  pub is : bytes ≡ encoding (prepared_of columns filter)

-- the bytes are the encoding of what is prepared so, or there is no memory, or it has no encoding
abbrev pub WritesEncoding : ℕ → Prepared → Result (Vec ℕ Global) SqlError → Type 0
WritesEncoding n p r = MatchResult r (λ bytes. HasEncoding n p × (bytes.items ≡ encoding p)) (λ e. (e ≡ OutOfMemory) ⊎ ((e ≡ NoEncoding) × ¬ (CanBeWritten n p)))

-- ---- mistakes

-- why a column at a place is not named: the first reason in this order
abbrev pub IsColumnError : ℕ → NamedKind → SqlError → Type 0
IsColumnError k column OutOfMemory = ⊥
IsColumnError k column (NotAKind place) = (place ≡ k) × (kind_of_named column ≡ None)
IsColumnError k column (NameNotUtf8 place) = (place ≡ k) × (kind_of_named column ≢ None) × ¬ (IsUtf8 column.name.now)
IsColumnError k column NotUtf8 = ⊥
IsColumnError k column (NoFilter cause) = ⊥
IsColumnError k column NoEncoding = ⊥

-- why some column is not named: the first one that is not
abbrev pub IsColumnsError : List NamedKind → SqlError → Type 0
IsColumnsError columns fault = (k : ℕ) × (column : NamedKind) × (slice_get columns k ≡ Some column) × AreNamedBefore columns k × IsColumnError k column fault

-- the error of words that are refused so
abbrev pub fault_of_words : ParseError → SqlError
fault_of_words errors.OutOfMemory = OutOfMemory
fault_of_words cause = NoFilter cause

-- why the columns or the words are not as they are to be, which is tested before memory is asked for
abbrev pub IsUnfit : List ℕ → List NamedKind → SqlError → Type 0
IsUnfit words columns (NotAKind place) = IsColumnsError columns (NotAKind place)
IsUnfit words columns (NameNotUtf8 place) = IsColumnsError columns (NameNotUtf8 place)
IsUnfit words columns NotUtf8 = AreNamed columns × ¬ (IsUtf8 words)
IsUnfit words columns _ = ⊥

-- why a text is no filter over such columns
abbrev pub IsTextError : ℕ → List ColumnTree → List ℕ → SqlError → Type 0
IsTextError n trees text OutOfMemory = Unit {0}
IsTextError n trees text (NoFilter errors.OutOfMemory) = ⊥
IsTextError n trees text (NoFilter cause) = RefusesSqlWithin n trees text cause × IsPlaced (length text) cause
IsTextError n trees text _ = ⊥

-- why there is no encoding of the filter that the words are: each filter of words has one, at the depth that goes with theirs
abbrev pub IsSqlError : ℕ → List ℕ → List NamedKind → SqlError → Type 0
IsSqlError n words columns OutOfMemory = AreNamed columns × IsUtf8 words
IsSqlError n words columns (NotAKind place) = IsUnfit words columns (NotAKind place)
IsSqlError n words columns (NameNotUtf8 place) = IsUnfit words columns (NameNotUtf8 place)
IsSqlError n words columns NotUtf8 = IsUnfit words columns NotUtf8
IsSqlError n words columns (NoFilter cause) = AreNamed columns × IsUtf8 words × IsTextError n (trees_of_kinds columns) words (NoFilter cause)
IsSqlError n words columns NoEncoding = ⊥

abbrev pub status_of_sql : SqlError → ℕ
status_of_sql OutOfMemory = NO_MEMORY
status_of_sql (NotAKind column) = UNKNOWN_KIND
status_of_sql (NameNotUtf8 column) = NOT_UTF8
status_of_sql NotUtf8 = NOT_UTF8
status_of_sql (NoFilter cause) = BAD_FILTER
status_of_sql NoEncoding = BAD_FILTER

-- what had to come, by its code
abbrev pub code_of_expected : Expected → ℕ
code_of_expected Filter = 0
code_of_expected Column = 1
code_of_expected Operator = 2
code_of_expected Literal = 3
code_of_expected Pattern = 4
code_of_expected Escape = 5
code_of_expected Null = 6
code_of_expected And = 7
code_of_expected Opening = 8
code_of_expected Closing = 9
code_of_expected Comma = 10
code_of_expected End = 11

-- what is wrong, by its code
abbrev pub code_of_mistake : ParseError → ℕ
code_of_mistake errors.OutOfMemory = 0
code_of_mistake (errors.Expected place expected) = code_of_expected expected
code_of_mistake (errors.NoColumn place) = 12
code_of_mistake (errors.TypesDiffer place) = 13
code_of_mistake (errors.NoLiteral place) = 14
code_of_mistake (errors.NumberTooLong place) = 15
code_of_mistake (errors.BadText place) = 16
code_of_mistake (errors.TooDeep place) = 17

-- where it is
abbrev pub place_of_mistake : ParseError → ℕ
place_of_mistake cause = unwrap_or (place_of cause) 0

-- what is told of it, if this was there before: of words that are not UTF-8 the number of columns
abbrev pub mistake_of_sql : ℕ → SqlError → Mistake → Mistake
mistake_of_sql columns OutOfMemory before = before
mistake_of_sql columns (NotAKind column) before = record { place = column; expected = 0 }
mistake_of_sql columns (NameNotUtf8 column) before = record { place = column; expected = 0 }
mistake_of_sql columns NotUtf8 before = record { place = columns; expected = 0 }
mistake_of_sql columns (NoFilter cause) before = record { place = place_of_mistake cause; expected = code_of_mistake cause }
mistake_of_sql columns NoEncoding before = record { place = 0; expected = 17 }

-- the call with this status prepared nothing for such a reason, and told what
abbrev pub SaysWhyNotPrepared : ℕ → List ℕ → List NamedKind → Mistake → Mistake → ℕ → Type 0
SaysWhyNotPrepared n words columns before after status =
    (reason : SqlError) × IsSqlError n words columns reason × (status ≡ status_of_sql reason) × (after ≡ mistake_of_sql (length columns) reason before)
