-- The statistics of columns and one record more.
use Rattle.std.specs.Prelude.{◌≡◌, ◌⊎◌, ◌+◌, ◌<◌, ◌≤◌, ◌^◌, ℕ, List, [], ◌∷◌, Bool, false, true, Contains, Option, Some, IfSome, IsUtf8, length, map, nat_lt, slice_index_or}
use Rattle.std.specs.List.{AllByRecursion}
use Rattle.std.specs.declared.cmp.Ordering.{Ordering}
use Rattle.std.specs.declared.cmp.Ordering.TheVariants.{Equal, Less}
use Rattle.csv_records.specs.Rows.{Field, field_rows, rows_of}
use Rattle.record_rows.specs.Cells.{HasNoCell, IsContent, Means, column_type}
use Rattle.record_rows.specs.Readings.{Reading}
use Rattle.record_rows.specs.Rows.{fitted, refused_of}
use Rattle.record_rows.specs.declared.errors.ObserveError.{ObserveError}
use Rattle.record_rows.specs.declared.errors.ObserveError.TheVariants.{Row, TooManyRows}
use Rattle.record_rows.specs.declared.errors.RowReadError.{RowReadError}
use Rattle.record_rows.specs.declared.observing.RowNotes.{RowNotes}
use Rattle.record_rows.specs.declared.schema.ColumnType.{ColumnType}
use Rattle.vortex_dtype.specs.TypeTree.{TypeTree, utf8_type}
use Rattle.vortex_dtype.specs.declared.nullability.Nullability.{Nullability}
use Rattle.vortex_dtype.specs.declared.nullability.Nullability.TheVariants.{Nullable}
use Rattle.vortex_pvalue.specs.Whole.{whole_of}
use Rattle.vortex_pvalue.specs.declared.pvalues.PValue.{PValue}
use Rattle.vortex_cells.specs.Cells.{Cell, cell_order, order_from_above}
use Rattle.vortex_statistics.specs.Observing.{IsCompleteWith, IsRightWith, bound_after, observed}
use Rattle.vortex_statistics.specs.Statistics.{HasValidBounds, Known, KnownBound, known}
use Rattle.vortex_statistics.specs.declared.column_statistics.ColumnStatistics.{ColumnStatistics}
use Rattle.vortex_value.specs.Values.Content.{Content, null, text, whole}

-- ---- the cells of a record

-- the content of a field, or a null in its place, as is asked; the flag tells which
abbrev pub IsTakenAs : Reading → ColumnType → Field → Content → Bool → Type 0
IsTakenAs reading column f c false = IsContent reading column f c
IsTakenAs reading column f c true = (reading.is_lenient ≡ true) × HasNoCell reading column f × (column.nullability ≡ Nullable) × (c ≡ null)

-- the cell of a column with this content
abbrev pub cell_in : ColumnType → Content → Cell
cell_in column c = record { typed = column_type column; content = c }

-- t is what is known of the cells of s and of x, and 64 bits count so many rows. It is right if s is, and complete if s is
pub record ObservesCell (s : Known) (x : Cell) (t : Known) : Type 0 where
  pub is : t ≡ observed s x
  pub fits : s.row_count + 1 < 2 ^ 64
  pub right : IsRightWith s x t
  pub complete : IsCompleteWith s x t

-- t is what is known of the cells of s and of that of a field
abbrev pub ObservesField : Reading → ColumnType → Field → Known → Known → Bool → Type 0
ObservesField reading column f s t flag = (c : Content) × IsTakenAs reading column f c flag × ObservesCell s (cell_in column c) t

-- the bounds of t are valid if those of s are
abbrev pub KeepsValid : ColumnStatistics → ColumnStatistics → Type 0
KeepsValid s t = HasValidBounds s → HasValidBounds t

-- a column at a record: its field there and the content of this, or a null in its place, and its statistics before and after
pub record Step : Type 0 where
  pub column : ColumnType
  pub field : Field
  pub content : Content
  pub flag : Bool
  pub old : ColumnStatistics
  pub new : ColumnStatistics

-- the content is that of the field, and the statistics observe it; their bounds stay valid
abbrev pub IsStep : Reading → Step → Type 0
IsStep reading s = IsTakenAs reading s.column s.field s.content s.flag × ObservesCell (known s.old) (cell_in s.column s.content) (known s.new) × KeepsValid s.old s.new

-- these fields are observed, each by the statistics of its column, and so many nulls stand in place of a cell
pub record AreFieldsObserved (reading : Reading) (columns : List ColumnType) (fields : List Field) (old new : List ColumnStatistics) (refused : ℕ) : Type 0 where
  pub steps : List Step
  pub fields_are : fields ≡ map (λ s. s.field) steps
  pub columns_are : columns ≡ map (λ s. s.column) steps
  pub old_are : old ≡ map (λ s. s.old) steps
  pub new_are : new ≡ map (λ s. s.new) steps
  pub each : AllByRecursion (IsStep reading) steps
  pub count : refused ≡ refused_of (map (λ s. s.flag) steps)

-- the fields of a row are observed as they stand in columns, and noted is how many of them their columns do not take, and whether
-- they are more than columns
abbrev pub AreNoted : Reading → List ColumnType → List Field → List ColumnStatistics → List ColumnStatistics → RowNotes → Type 0
AreNoted reading columns fields old new notes = AreFieldsObserved reading columns (fitted reading.is_lenient columns fields) old new notes.refused × (notes.is_longer ≡ nat_lt (length columns) (length fields))

-- the text has one row, which is observed; it begins where a field does
abbrev pub AreObserved : ℕ → Reading → List ColumnType → List ℕ → List ColumnStatistics → List ColumnStatistics → RowNotes → Type 0
AreObserved delimiter reading columns bytes old new notes = (fields : List Field) × (field_rows delimiter bytes ≡ fields ∷ []) × AreNoted reading columns fields old new notes

-- the record has one row, which is observed
abbrev pub IsObserved : ℕ → Reading → List ColumnType → List ℕ → List ColumnStatistics → List ColumnStatistics → RowNotes → Type 0
IsObserved delimiter reading columns line old new notes = (fields : List Field) × (rows_of delimiter line ≡ fields ∷ []) × AreNoted reading columns fields old new notes

-- ---- the types of bounds

-- the bounds are of this type, if there are some
pub record HasBoundsOf (t : TypeTree) (s : Known) : Type 0 where
  pub lower : IfSome s.lower (λ b. b.value.typed ≡ t)
  pub upper : IfSome s.upper (λ b. b.value.typed ≡ t)

-- those of each column are of its type
abbrev pub HaveTypes : List ColumnType → List ColumnStatistics → Type 0
HaveTypes columns statistics = (k : ℕ) (c : ColumnType) (s : ColumnStatistics) → k < length columns → k < length statistics → HasBoundsOf (column_type (slice_index_or columns k c)) (known (slice_index_or statistics k s))

-- ---- refusals

-- the statistics count as many rows as 64 bits can
abbrev pub IsFull : ColumnStatistics → Type 0
IsFull s = 2 ^ 64 ≤ s.row_count + 1

-- those of some column do
abbrev pub SomeIsFull : List ColumnStatistics → Type 0
SomeIsFull statistics = (s : ColumnStatistics) × Contains statistics s × IsFull s

-- why a row is not observed: there is none for such a reason, or statistics are full
abbrev pub IsNotObserved : (RowReadError → Type 0) → Type 0 → ObserveError → Type 0
IsNotObserved Refused full (Row error) = Refused error
IsNotObserved Refused full TooManyRows = full

-- ---- words that are observed in place

-- the cell compares with the bound and is not past it in this order; it is equal to it only if it is exact
abbrev pub Keeps : (Cell → Cell → Option Ordering) → KnownBound → Cell → Type 0
Keeps cmp b x = (cmp b.value x ≡ Some Less) ⊎ ((cmp b.value x ≡ Some Equal) × (b.is_exact ≡ true))

-- the cell keeps the lower bound, and new is the upper bound after it
abbrev pub TakesCell : KnownBound → KnownBound → KnownBound → Cell → Type 0
TakesCell lower old new x = Keeps cell_order lower x × (bound_after order_from_above (Some old) x ≡ Some new)

-- the word has a meaning in the column; its cell keeps the lower bound, and new is the upper bound after it
abbrev pub TakesWord : ColumnType → List ℕ → KnownBound → KnownBound → KnownBound → Type 0
TakesWord column word lower old new = (c : Content) × Means column.kind word c × TakesCell lower old new (cell_in column c)

-- the cell of this type that a number stores
abbrev pub number_cell : TypeTree → PValue → Cell
number_cell t number = record { typed = t; content = whole (whole_of number) }

-- new is the upper bound after a number of its type
abbrev pub RaisesTo : PValue → KnownBound → KnownBound → Type 0
RaisesTo number old new = bound_after order_from_above (Some old) (number_cell old.value.typed number) ≡ Some new

-- the word is a string, and keeps both bounds
abbrev pub IsTextInside : List ℕ → KnownBound → KnownBound → Type 0
IsTextInside word lower upper = IsUtf8 word × ((n : Nullability) → let x : Cell = record { typed = utf8_type n; content = text word } in Keeps cell_order lower x × Keeps order_from_above upper x)

-- t is what is known of the cells of s and of that of the word, in quotes or not
abbrev pub ObservesWord : Reading → ColumnType → List ℕ → Known → Known → Type 0
ObservesWord reading column word s t = (is_quoted : Bool) → ObservesField reading column (record { text = word; is_quoted = is_quoted }) s t false

-- the bound is this string
abbrev pub IsTextBound : List ℕ → KnownBound → Type 0
IsTextBound bytes b = (n : Nullability) × (b.value ≡ record { typed = utf8_type n; content = text bytes })
