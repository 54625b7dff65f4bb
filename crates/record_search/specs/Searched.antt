-- Which records match, and what statistics say of their rows.
use Rattle.std.specs.Prelude.{◌≡◌, ◌⊎◌, ◌++◌, ◌<◌, ◌^◌, ◌&&◌, ℕ, suc, List, [], ◌∷◌, Bool, false, true, Option, None, Some, Vec, filter_map, if◌then◌else◌, is_some, length, map, nat_lt, not, ◌+◌, is_none}
use Rattle.std.specs.Global.{Global}
use Rattle.std.specs.List.{AllByRecursion, flat_map}
use Rattle.csv_records.specs.Records.{records_of}
use Rattle.csv_records.specs.Rows.{Field, rows_of}
use Rattle.record_rows.specs.Cells.{column_type}
use Rattle.record_rows.specs.Readings.{Reading}
use Rattle.record_rows.specs.Rows.{fitted}
use Rattle.record_rows.specs.declared.schema.ColumnType.{ColumnType}
use Rattle.vortex_dtype.specs.TypeTree.{TypeTree}
use Rattle.vortex_filter.specs.Formula.{Formula, is_match}
use Rattle.filter_pruning.specs.Outcomes.{outcomes}
use Rattle.filter_pruning.specs.OutcomeSets.{is_only_true}
use Rattle.filter_pruning.specs.Pruning.{column}
use Rattle.filter_pruning.specs.declared.outcomes.Outcomes.{Outcomes}
use Rattle.vortex_cells.specs.Cells.{Cell, cell_of}
use Rattle.statistics_bytes.specs.Encoding.{AreOf, IsHeldKnown, encoding}
use Rattle.statistics_bytes.specs.EncodingAnswers.{AreTyped}
use Rattle.vortex_statistics.specs.Observing.{IsCompleteWith}
use Rattle.vortex_statistics.specs.Statistics.{AreComplete, AreRight, HasValidBounds, Known, known}
use Rattle.vortex_statistics.specs.Truncating.{AreTruncated}
use Rattle.vortex_statistics.specs.declared.column_statistics.ColumnStatistics.{ColumnStatistics}
use Rattle.vortex_value.specs.declared.scalars.Scalar.{Scalar}
use Rattle.zone_index.specs.Encoding.{bytes_encoding}
use Rattle.zone_index.specs.Zones.{IsIndexOf}
use Rattle.zone_index.specs.declared.zones.Zone.{Zone}
use Rattle.zone_index.specs.declared.records.Decision.{Decision}
use Rattle.zone_index.specs.declared.records.Decision.TheVariants.{AllMatch, NoneMatch, Unknown}
use Rattle.record_search.specs.Contents.{field_content, row_of}
use Rattle.record_search.specs.Decoding.{columns_in}
use Rattle.record_rows.specs.declared.schema.Schema.{Schema}

-- the row of a record under a schema
abbrev pub row_under : Schema → List ℕ → Option (List Cell)
row_under s line = row_of s.delimiter.byte s.reading s.columns.items line

-- whether there is one
abbrev pub has_row : Schema → List ℕ → Bool
has_row s line = is_some (row_under s line)

-- whether there are fields of a record
abbrev pub has_fields : List (List Field) → Bool
has_fields [] = false
has_fields (fields ∷ others) = true

-- whether a record is refused: it has fields, and they are no row under the schema. One without fields, as an empty line, has
-- no row and is not refused
abbrev pub is_refused : Schema → List ℕ → Bool
is_refused s line = has_fields (rows_of s.delimiter.byte line) && not (has_row s line)

-- the rows of records, in order
abbrev pub rows_under : Schema → List (List ℕ) → List (List Cell)
rows_under s records = filter_map (row_under s) records

abbrev pub matches_row : Formula → Option (List Cell) → Bool
matches_row f None = false
matches_row f (Some row) = is_match f row

-- whether a record has a row on which the formula is True
abbrev pub matches_record : Schema → Formula → List ℕ → Bool
matches_record s f line = matches_row f (row_under s line)

-- ---- statistics

-- the cells of a row that a caller holds
abbrev pub row_cells : Vec Scalar Global → List Cell
row_cells row = map cell_of row.items

-- each cell of a row is of its column's type, from this column on
abbrev pub AreCellsOf : List ColumnType → List Cell → Type 0
AreCellsOf [] [] = Unit {0}
AreCellsOf [] (x ∷ xs) = ⊥
AreCellsOf (c ∷ cs) [] = ⊥
AreCellsOf (c ∷ cs) (x ∷ xs) = (x.typed ≡ column_type c) × AreCellsOf cs xs

abbrev pub AreRowsOf : List ColumnType → List (List Cell) → Type 0
AreRowsOf columns rows = AllByRecursion (AreCellsOf columns) rows

-- the statistics of each column, from this place on, are complete for its cells in the rows
abbrev pub AreAllComplete : ℕ → List (List Cell) → List ColumnStatistics → Type 0
AreAllComplete k rows [] = Unit {0}
AreAllComplete k rows (s ∷ ss) = AreComplete (known s) (column k rows) × AreAllComplete (suc k) rows ss

-- each of the new statistics is complete for the cells of the old one and one more: that of its column in a row
abbrev pub AreAllWith : List ColumnStatistics → List Cell → List ColumnStatistics → Type 0
AreAllWith [] [] [] = Unit {0}
AreAllWith [] [] (t ∷ ts) = ⊥
AreAllWith [] (x ∷ xs) ts = ⊥
AreAllWith (s ∷ ss) [] ts = ⊥
AreAllWith (s ∷ ss) (x ∷ xs) [] = ⊥
AreAllWith (s ∷ ss) (x ∷ xs) (t ∷ ts) = IsCompleteWith (known s) x (known t) × AreAllWith ss xs ts

-- the row of a record is observed if it has one; else the statistics are as they were
abbrev pub ObservesRow : Bool → Option (List Cell) → List ColumnStatistics → List ColumnStatistics → Type 0
ObservesRow true (Some cells) old new = AreAllWith old cells new
ObservesRow true None old new = ⊥
ObservesRow false (Some cells) old new = ⊥
ObservesRow false None old new = new ≡ old

-- the statistics of these cells, whose nulls are counted and whose bounds are values, with bounds cut to so many bytes
pub record IsCutOf (n : ℕ) (cells : List Cell) (s : ColumnStatistics) : Type 0 where
  pub whole : ColumnStatistics
  pub complete : AreComplete (known whole) cells
  pub cut : AreTruncated n whole s

-- the bounds of the statistics of each column are valid scalars
abbrev pub AreAllValid : List ColumnStatistics → Type 0
AreAllValid ss = AllByRecursion HasValidBounds ss

-- the encoding of statistics with bounds cut to so many bytes is appended, after its length; they are right where the whole ones
-- are, and their bounds valid where those are
pub record PushesCut (n : ℕ) (s : ColumnStatistics) (old new : List ℕ) : Type 0 where
  pub cut : ColumnStatistics
  pub truncated : AreTruncated n s cut
  pub right : (cells : List Cell) → AreRight (known s) cells → AreRight (known cut) cells
  pub valid : HasValidBounds s → HasValidBounds cut
  pub held : IsHeldKnown (known cut)
  pub fits : length (encoding (known cut)) < 2 ^ 64
  pub appended : new ≡ old ++ bytes_encoding (encoding (known cut))

-- the bytes are the encoding of such statistics, which are right, and whose bounds are values of the type: so they are read back
pub record IsFullEncoding (n : ℕ) (t : TypeTree) (cells : List Cell) (bytes : List ℕ) : Type 0 where
  pub statistics : ColumnStatistics
  pub of_type : AreOf t (known statistics)
  pub right : AreRight (known statistics) cells
  pub cut : IsCutOf n cells statistics
  pub is : bytes ≡ encoding (known statistics)

-- the bytes are the encoding of statistics of the type that are right for these cells
pub record IsRightEncoding (t : TypeTree) (cells : List Cell) (bytes : List ℕ) : Type 0 where
  pub fits : length bytes < 2 ^ 64
  pub statistics : Known
  pub held : IsHeldKnown statistics
  pub is : bytes ≡ encoding statistics
  pub typed : AreTyped t statistics
  pub right : AreRight statistics cells

-- what the piece of a column is to be: such an encoding, or empty, since nothing is known
abbrev pub IsRightOf : ColumnType → List Cell → List ℕ → Type 0
IsRightOf c cells bytes = (bytes ≡ []) ⊎ IsRightEncoding (column_type c) cells bytes

-- so that it says all that is to be known
abbrev pub IsFullOf : ℕ → ColumnType → List Cell → List ℕ → Type 0
IsFullOf n c cells bytes = IsRightEncoding (column_type c) cells bytes × IsFullEncoding n (column_type c) cells bytes

-- there are such bytes for each column, from this place of a row on
abbrev pub AreEncoded : (ColumnType → List Cell → List ℕ → Type 0) → ℕ → List ColumnType → List (List Cell) → List (List ℕ) → Type 0
AreEncoded Is k [] rows [] = Unit {0}
AreEncoded Is k [] rows (p ∷ ps) = ⊥
AreEncoded Is k (c ∷ cs) rows [] = ⊥
AreEncoded Is k (c ∷ cs) rows (p ∷ ps) = Is c (column k rows) p × AreEncoded Is (suc k) cs rows ps

-- the bytes are such bytes, each after their length
pub record AreDescribedBy (Is : ColumnType → List Cell → List ℕ → Type 0) (columns : List ColumnType) (rows : List (List Cell)) (bytes : List ℕ) : Type 0 where
  pub encodings : List (List ℕ)
  pub is : bytes ≡ flat_map bytes_encoding encodings
  pub each : AreEncoded Is 0 columns rows encodings

-- the bytes are statistics of each column that are right for the rows, as far as they are known
abbrev pub AreDescribed : List ColumnType → List (List Cell) → List ℕ → Type 0
AreDescribed columns rows bytes = AreDescribedBy IsRightOf columns rows bytes

-- the bytes say all that is to be known of the rows: of each column the nulls, and both bounds of the values, cut to so many bytes
abbrev pub AreDescribedFully : ℕ → List ColumnType → List (List Cell) → List ℕ → Type 0
AreDescribedFully n columns rows bytes = AreDescribedBy (IsFullOf n) columns rows bytes

-- the bytes are statistics that are right for the rows of these records
abbrev pub DescribeRows : Schema → List ℕ → List (List ℕ) → Type 0
DescribeRows s bytes records = AreDescribed s.columns.items (rows_under s records) bytes

-- the bytes say all that is to be known of the rows of these records
abbrev pub DescribeRowsFully : ℕ → Schema → List ℕ → List (List ℕ) → Type 0
DescribeRowsFully n s bytes records = AreDescribedFully n s.columns.items (rows_under s records) bytes

-- ---- nulls in place of fields

-- the same reading, where no null stands in place of a field
abbrev pub strict : Reading → Reading
strict reading = record { is_lenient = false; nulls = reading.nulls }

-- how many of the fields their columns do not take
abbrev pub untaken : Reading → List ColumnType → List Field → ℕ
untaken reading [] fields = 0
untaken reading (c ∷ cs) [] = 0
untaken reading (c ∷ cs) (f ∷ fs) = (if is_none (field_content (strict reading) c f) then 1 else 0) + untaken reading cs fs

-- the same of the first row of a record
abbrev pub untaken_of : Reading → List ColumnType → List (List Field) → ℕ
untaken_of reading columns [] = 0
untaken_of reading columns (fields ∷ rows) = untaken reading columns (fitted reading.is_lenient columns fields)

-- how many fields of a record stand as a null since their columns do not take them
abbrev pub nulls_under : Schema → List ℕ → ℕ
nulls_under s line = untaken_of s.reading s.columns.items (rows_of s.delimiter.byte line)

-- 1 if the first row of a record has more fields than columns, else 0
abbrev pub longer_of : List ColumnType → List (List Field) → ℕ
longer_of columns [] = 0
longer_of columns (fields ∷ rows) = if nat_lt (length columns) (length fields) then 1 else 0

-- the same of a record
abbrev pub longer_under : Schema → List ℕ → ℕ
longer_under s line = longer_of s.columns.items (rows_of s.delimiter.byte line)

-- ---- an index and what is found by it

abbrev pub columns_of : Schema → List ColumnType
columns_of s = s.columns.items

-- the records of bytes, by the schema's delimiter
abbrev pub records_under : Schema → List ℕ → List (List ℕ)
records_under s bytes = records_of s.delimiter.byte bytes

-- the zones are right for the bytes, from an offset on: they cover all records, and the statistics of each are right
-- for its rows
abbrev pub IsRowIndex : Schema → ℕ → List Zone → List ℕ → Type 0
IsRowIndex s start zones bytes = IsIndexOf s.delimiter.byte (has_row s) (DescribeRows s) start zones bytes

-- so they are, and the statistics of each say all that is to be known of its rows
abbrev pub IsFullRowIndex : ℕ → Schema → ℕ → List Zone → List ℕ → Type 0
IsFullRowIndex n s start zones bytes = IsIndexOf s.delimiter.byte (has_row s) (DescribeRowsFully n s) start zones bytes

-- ---- decisions

abbrev pub decision_by : Outcomes → Decision
decision_by o = if o.may_be_true then (if is_only_true o then AllMatch else Unknown) else NoneMatch

abbrev pub decision_in : Formula → Option (List Known) → Decision
decision_in f None = Unknown
decision_in f (Some statistics) = decision_by (outcomes f statistics)

-- what the statistics that the bytes are decide
abbrev pub decision_of : List ColumnType → Formula → List ℕ → Decision
decision_of columns f bytes = decision_in f (columns_in columns bytes)
