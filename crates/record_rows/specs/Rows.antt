-- The row of a record.
use Rattle.std.specs.Prelude.{◌≡◌, ◌≢◌, ◌<◌, ◌≤◌, ◌⊎◌, ◌++◌, ℕ, suc, List, [], ◌∷◌, Bool, false, true, count_by, length, slice_index_or}
use Rattle.csv_records.specs.Rows.{Field, field_rows, rows_of}
use Rattle.vortex_dtype.specs.declared.nullability.Nullability.{Nullability}
use Rattle.vortex_dtype.specs.declared.nullability.Nullability.TheVariants.{NonNullable, Nullable}
use Rattle.vortex_value.specs.Values.Content.{null}
use Rattle.vortex_value.specs.Values.Scalars.{IsValid, scalar_content, scalar_type}
use Rattle.vortex_value.specs.declared.scalars.Scalar.{Scalar}
use Rattle.record_rows.specs.Cells.{HasCell, HasNoCell, IsCell, column_type}
use Rattle.record_rows.specs.Readings.{Reading}
use Rattle.record_rows.specs.declared.schema.ColumnType.{ColumnType}
use Rattle.record_rows.specs.declared.errors.RowReadError.{RowReadError}
use Rattle.record_rows.specs.declared.errors.RowReadError.TheVariants as errors

-- the column does not take the field, and a null stands in its place, as is asked
pub record IsLenientNull (reading : Reading) (column : ColumnType) (f : Field) (x : Scalar) : Type 0 where
  pub asked : reading.is_lenient ≡ true
  pub none : HasNoCell reading column f
  pub takes : column.nullability ≡ Nullable
  pub typed : scalar_type x ≡ column_type column
  pub content : scalar_content x ≡ null
  pub valid : IsValid x

-- x is the cell of the field, or stands in place of one
abbrev pub IsTaken : Reading → ColumnType → Field → Scalar → Bool → Type 0
IsTaken reading column f x false = IsCell reading column f x
IsTaken reading column f x true = IsLenientNull reading column f x

-- each scalar is of its field in its column, each flag tells whether it stands in place of a cell, and there are as many of each
abbrev pub AreCells : Reading → List ColumnType → List Field → List Scalar → List Bool → Type 0
AreCells reading [] [] [] [] = Unit {0}
AreCells reading [] [] [] (b ∷ bs) = ⊥
AreCells reading [] [] (x ∷ xs) bs = ⊥
AreCells reading [] (f ∷ fs) xs bs = ⊥
AreCells reading (c ∷ cs) [] xs bs = ⊥
AreCells reading (c ∷ cs) (f ∷ fs) [] bs = ⊥
AreCells reading (c ∷ cs) (f ∷ fs) (x ∷ xs) [] = ⊥
AreCells reading (c ∷ cs) (f ∷ fs) (x ∷ xs) (b ∷ bs) = IsTaken reading c f x b × AreCells reading cs fs xs bs

-- how many stand in place of a cell
abbrev pub refused_of : List Bool → ℕ
refused_of flags = count_by (λ b. b) flags

-- ---- records of another length

-- a field that a record lacks
abbrev pub no_field : Field
no_field = record { text = []; is_quoted = false }

-- such a field before those of the other columns, if its column takes nulls
abbrev pub missing_before : Nullability → List Field → List Field
missing_before Nullable fields = no_field ∷ fields
missing_before NonNullable fields = []

-- the fields that a record lacks, up to the first column that takes no null
abbrev pub missing : List ColumnType → List Field
missing [] = []
missing (c ∷ cs) = missing_before c.nullability (missing cs)

-- the fields that stand in columns: those of the record; or in a lenient reading without those that are too many, and with those
-- that it lacks
abbrev pub fitted : Bool → List ColumnType → List Field → List Field
fitted false columns fields = fields
fitted true columns [] = missing columns
fitted true [] (f ∷ fs) = []
fitted true (c ∷ cs) (f ∷ fs) = f ∷ fitted true cs fs

-- ---- the row of a record

-- the record has one row, its cells are these, and so many stand in place of one
pub record IsRow (delimiter : ℕ) (reading : Reading) (columns : List ColumnType) (line : List ℕ) (row : List Scalar) (refused : ℕ) : Type 0 where
  pub fields : List Field
  pub flags : List Bool
  pub is : rows_of delimiter line ≡ fields ∷ []
  pub cells : AreCells reading columns (fitted reading.is_lenient columns fields) row flags
  pub count : refused ≡ refused_of flags

-- ---- rows of which some cells are wanted

-- whether the cell of column k is: each is that the list does not say to be none
abbrev pub is_wanted : List Bool → ℕ → Bool
is_wanted wanted k = slice_index_or wanted k true

-- the column takes the field, or a null may stand in place of its cell
abbrev pub IsTested : Reading → ColumnType → Field → Bool → Type 0
IsTested reading column f false = HasCell reading column f
IsTested reading column f true = (reading.is_lenient ≡ true) × HasNoCell reading column f × (column.nullability ≡ Nullable)

-- x is taken of the field if its cell is wanted; else x may be any, and the field is one that the column takes
abbrev pub IsTakenIf : Bool → Reading → ColumnType → Field → Scalar → Bool → Type 0
IsTakenIf true reading column f x flag = IsTaken reading column f x flag
IsTakenIf false reading column f x flag = IsTested reading column f flag

-- the same as AreCells, of the columns from k on, where each scalar is as far of its field as its cell is wanted
abbrev pub AreCellsIn : List Bool → ℕ → Reading → List ColumnType → List Field → List Scalar → List Bool → Type 0
AreCellsIn wanted k reading [] [] [] [] = Unit {0}
AreCellsIn wanted k reading [] [] [] (b ∷ bs) = ⊥
AreCellsIn wanted k reading [] [] (x ∷ xs) bs = ⊥
AreCellsIn wanted k reading [] (f ∷ fs) xs bs = ⊥
AreCellsIn wanted k reading (c ∷ cs) [] xs bs = ⊥
AreCellsIn wanted k reading (c ∷ cs) (f ∷ fs) [] bs = ⊥
AreCellsIn wanted k reading (c ∷ cs) (f ∷ fs) (x ∷ xs) [] = ⊥
AreCellsIn wanted k reading (c ∷ cs) (f ∷ fs) (x ∷ xs) (b ∷ bs) = IsTakenIf (is_wanted wanted k) reading c f x b × AreCellsIn wanted (suc k) reading cs fs xs bs

-- the record has one row, these are its cells where they are wanted, and so many nulls stand in place of one
pub record IsRowIn (wanted : List Bool) (delimiter : ℕ) (reading : Reading) (columns : List ColumnType) (line : List ℕ) (row : List Scalar) (refused : ℕ) : Type 0 where
  pub fields : List Field
  pub flags : List Bool
  pub is : rows_of delimiter line ≡ fields ∷ []
  pub cells : AreCellsIn wanted 0 reading columns (fitted reading.is_lenient columns fields) row flags
  pub count : refused ≡ refused_of flags

-- the fields of a text are this row; the text begins where a field does
pub record HasFields (wanted : List Bool) (delimiter : ℕ) (reading : Reading) (columns : List ColumnType) (bytes : List ℕ) (row : List Scalar) (refused : ℕ) : Type 0 where
  pub fields : List Field
  pub flags : List Bool
  pub is : field_rows delimiter bytes ≡ fields ∷ []
  pub cells : AreCellsIn wanted 0 reading columns (fitted reading.is_lenient columns fields) row flags
  pub count : refused ≡ refused_of flags

-- one more, that of this field
pub record PushesCell (wanted : Bool) (reading : Reading) (column : ColumnType) (f : Field) (old new : List Scalar) (flag : Bool) : Type 0 where
  pub cell : Scalar
  pub is : IsTakenIf wanted reading column f cell flag
  pub pushed : new ≡ old ++ cell ∷ []

-- the row reaches past this place, and it grew at most so far
pub record ReachesPast (place : ℕ) (old new : List Scalar) : Type 0 where
  pub reaches : place < length new
  pub grown : (n : ℕ) → length old ≤ n → place < n → length new ≤ n

-- ---- refusals

-- no null may stand in place of a cell
abbrev pub IsStrict : Reading → ColumnType → Type 0
IsStrict reading column = (reading.is_lenient ≡ false) ⊎ (column.nullability ≡ NonNullable)

-- the error of a word at this column, unless memory ran out
abbrev pub IsWordError : ℕ → List ℕ → RowReadError → Type 0
IsWordError place word errors.Memory = Unit {0}
IsWordError place word (errors.Word column found) = (column ≡ place) × (found.items ≡ word)
IsWordError place word errors.FieldCount = ⊥
IsWordError place word errors.LoneReturn = ⊥

-- a column refuses a field, and tells its word
abbrev pub RefusesWord : Reading → ColumnType → ℕ → Field → RowReadError → Type 0
RefusesWord reading column place f errors.Memory = Unit {0}
RefusesWord reading column place f (errors.Word at found) = (at ≡ place) × (found.items ≡ f.text) × HasNoCell reading column f × IsStrict reading column
RefusesWord reading column place f errors.FieldCount = ⊥
RefusesWord reading column place f errors.LoneReturn = ⊥

-- the column does not take the field, and no null may stand in place of its cell
abbrev pub IsUntaken : Reading → ColumnType → Field → Type 0
IsUntaken reading column f = HasNoCell reading column f × IsStrict reading column

-- the column takes the field, or a null may stand in place of its cell
abbrev pub Takes : Reading → ColumnType → Field → Type 0
Takes reading column f = (flag : Bool) × IsTested reading column f flag

-- the fault tells this word of this column
abbrev pub TellsWord : ℕ → List ℕ → RowReadError → Type 0
TellsWord place word errors.Memory = ⊥
TellsWord place word (errors.Word column found) = (column ≡ place) × (found.items ≡ word)
TellsWord place word errors.FieldCount = ⊥
TellsWord place word errors.LoneReturn = ⊥

-- the fault is the first that is met from left to right, of columns from this place on and the fields beside them, which end a row:
-- a field that its column does not take; a field too many; behind the last field another row, or else a field too few
abbrev pub IsFirstError : Reading → ℕ → List ColumnType → List Field → List (List Field) → RowReadError → Type 0
IsFirstError reading place [] [] [] fault = ⊥
IsFirstError reading place [] [] (next ∷ others) fault = fault ≡ errors.LoneReturn
IsFirstError reading place [] (f ∷ fs) others fault = fault ≡ errors.FieldCount
IsFirstError reading place (c ∷ cs) [] [] fault = fault ≡ errors.FieldCount
IsFirstError reading place (c ∷ cs) [] (next ∷ others) fault = fault ≡ errors.LoneReturn
IsFirstError reading place (c ∷ cs) (f ∷ fs) others fault = (TellsWord place f.text fault × IsUntaken reading c f) ⊎ (Takes reading c f × IsFirstError reading (suc place) cs fs others fault)

-- the same of the rows of a record, where the first one is its row
abbrev pub HasFirstError : Reading → List ColumnType → List (List Field) → RowReadError → Type 0
HasFirstError reading columns [] fault = ⊥
HasFirstError reading columns (row ∷ others) fault = IsFirstError reading 0 columns (fitted reading.is_lenient columns row) others fault

-- a field is read: there is a column, or fields without one are passed over
abbrev pub ReadsFields : Reading → List ColumnType → Type 0
ReadsFields reading columns = (columns ≢ []) ⊎ (reading.is_lenient ≡ true)

-- why a record with these rows is not taken: no memory was left for a field or its cell, or the first fault
abbrev pub RefusesRows : Reading → List ColumnType → List (List Field) → RowReadError → Type 0
RefusesRows reading columns rows errors.Memory = ReadsFields reading columns × (rows ≢ [])
RefusesRows reading columns rows (errors.Word column found) = HasFirstError reading columns rows (errors.Word column found)
RefusesRows reading columns rows errors.FieldCount = HasFirstError reading columns rows errors.FieldCount
RefusesRows reading columns rows errors.LoneReturn = HasFirstError reading columns rows errors.LoneReturn

-- the same of a text that begins where a field does
abbrev pub RefusesFields : ℕ → Reading → List ColumnType → List ℕ → RowReadError → Type 0
RefusesFields delimiter reading columns bytes fault = RefusesRows reading columns (field_rows delimiter bytes) fault

-- the same of a record
abbrev pub Refuses : ℕ → Reading → List ColumnType → List ℕ → RowReadError → Type 0
Refuses delimiter reading columns line fault = RefusesRows reading columns (rows_of delimiter line) fault
