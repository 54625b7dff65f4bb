-- A walk over the fields of a record.
use Rattle.std.specs.Prelude.{◌≡◌, ◌<◌, ◌≤◌, ◌+◌, ◌++◌, ℕ, List, [], ◌∷◌, Bool, false, true, Option, None, Some, drop, length, nat_lt, slice_index_or}
use Rattle.std.specs.List.{onto_first}
use Rattle.csv_records.specs.Rows.{Field, field_rows}
use Rattle.csv_records.specs.declared.fields.Follows.{Follows}
use Rattle.csv_records.specs.declared.fields.Follows.TheVariants.{Another, Nothing, Row}
use Rattle.record_rows.specs.Readings.{Reading}
use Rattle.record_rows.specs.Rows.{Takes, fitted, missing, no_field}
use Rattle.record_rows.specs.declared.errors.RowReadError.{RowReadError}
use Rattle.record_rows.specs.declared.errors.RowReadError.TheVariants as errors
use Rattle.record_rows.specs.declared.fields.ColumnField.{ColumnField}
use Rattle.record_rows.specs.declared.fields.FieldWalk.{FieldWalk}
use Rattle.record_rows.specs.declared.schema.ColumnType.{ColumnType}

-- fields before those of the first row
abbrev pub with_front : List Field → List (List Field) → List (List Field)
with_front [] rows = rows
with_front (f ∷ fs) rows = onto_first f (with_front fs rows)

-- these fields were read of the bytes, and that follows them
abbrev pub AreFollowedBy : ℕ → List ℕ → List Field → Follows → Type 0
AreFollowedBy delimiter bytes fields (Another rest) = field_rows delimiter bytes ≡ with_front fields (field_rows delimiter rest.now)
AreFollowedBy delimiter bytes fields Nothing = field_rows delimiter bytes ≡ fields ∷ []
AreFollowedBy delimiter bytes fields Row = (next : List Field) × (others : List (List Field)) × (field_rows delimiter bytes ≡ fields ∷ next ∷ others)

-- the fields that a walk has given are those that it read; or, behind the last one, those of the row that these make
abbrev pub AreGiven : Bool → List ColumnType → List Field → Follows → List Field → Type 0
AreGiven lenient columns read (Another rest) fields = fields ≡ read
AreGiven lenient columns read Nothing fields = fitted lenient columns read ≡ fields ++ fitted lenient (drop (length fields) columns) []
AreGiven lenient columns read Row fields = fields ≡ read

-- a walk over the bytes has given these fields, one for each of the first columns
pub record HasWalked (delimiter : ℕ) (reading : Reading) (columns : List ColumnType) (bytes : List ℕ) (walk : FieldWalk) (fields : List Field) : Type 0 where
  pub delimiter_is : walk.delimiter.byte ≡ delimiter
  pub lenient_is : walk.is_lenient ≡ reading.is_lenient
  pub columns_are : walk.columns.now ≡ columns
  pub place : walk.place ≡ length fields
  pub within : walk.place ≤ length columns
  pub shorter : walk.is_longer ≡ false
  pub read : List Field
  pub few : length read ≤ length fields
  pub follow : AreFollowedBy delimiter bytes read walk.follows
  pub given : AreGiven reading.is_lenient columns read walk.follows fields

-- each of the fields is taken by its column
abbrev pub AreTaken : Reading → List ColumnType → List Field → Type 0
AreTaken reading [] [] = Unit {0}
AreTaken reading [] (f ∷ fs) = ⊥
AreTaken reading (c ∷ cs) [] = Unit {0}
AreTaken reading (c ∷ cs) (f ∷ fs) = Takes reading c f × AreTaken reading cs fs

-- a field without its column
abbrev pub field_of : ColumnField → Field
field_of f = record { text = f.word.now; is_quoted = f.is_quoted }

-- the field is the next one, and stands in its column
pub record IsNext (delimiter : ℕ) (reading : Reading) (columns : List ColumnType) (bytes : List ℕ) (walk : FieldWalk) (fields : List Field) (next : ColumnField) : Type 0 where
  pub place : next.place ≡ length fields
  pub within : next.place < length columns
  pub column : next.column ≡ slice_index_or columns next.place next.column
  pub walked : HasWalked delimiter reading columns bytes walk (fields ++ field_of next ∷ [])

-- the fields are those of the only row as they stand in columns, one for each column
pub record AreWhole (delimiter : ℕ) (reading : Reading) (columns : List ColumnType) (bytes : List ℕ) (walk : FieldWalk) (fields : List Field) : Type 0 where
  pub row : List Field
  pub is : field_rows delimiter bytes ≡ row ∷ []
  pub fields_are : fitted reading.is_lenient columns row ≡ fields
  pub count : length fields ≡ length columns
  pub longer : walk.is_longer ≡ nat_lt (length columns) (length row)

-- the next field is given; or there is none
abbrev pub ReadsNext : ℕ → Reading → List ColumnType → List ℕ → FieldWalk → List Field → Option ColumnField → Type 0
ReadsNext delimiter reading columns bytes walk fields (Some next) = IsNext delimiter reading columns bytes walk fields next
ReadsNext delimiter reading columns bytes walk fields None = AreWhole delimiter reading columns bytes walk fields

-- ---- where a walk goes on

-- a field is missing, and the next column takes a null in its place
pub record IsMissing (walk : FieldWalk) (rest : List ℕ) : Type 0 where
  pub lenient : walk.is_lenient ≡ true
  pub rest_is : rest ≡ []
  pub next : missing (drop walk.place walk.columns.now) ≡ no_field ∷ missing (drop (walk.place + 1) walk.columns.now)

-- the next field is the first one of this text: of what follows, or of none
abbrev pub StartsAt : Follows → FieldWalk → List ℕ → Type 0
StartsAt (Another next) walk rest = next.now ≡ rest
StartsAt Nothing walk rest = IsMissing walk rest
StartsAt Row walk rest = ⊥

-- there is a column for the first field of this text, which is the next one
abbrev pub StartsField : FieldWalk → List ℕ → Type 0
StartsField walk rest = (walk.place < length walk.columns.now) × StartsAt walk.follows walk rest

-- the fields that follow are passed over, and no other row follows them
pub record PassesOver (old new : FieldWalk) (rest : List ℕ) : Type 0 where
  pub lenient : old.is_lenient ≡ true
  pub only : length (field_rows old.delimiter.byte rest) ≡ 1
  pub is : new ≡ record old { is_longer = true }

abbrev pub EndsAt : Follows → FieldWalk → FieldWalk → Type 0
EndsAt (Another rest) old new = PassesOver old new rest.now
EndsAt Nothing old new = new ≡ old
EndsAt Row old new = ⊥

-- each column has its field, and none follows; or those that do are passed over
abbrev pub EndsFields : FieldWalk → FieldWalk → Type 0
EndsFields old new = (length old.columns.now ≤ old.place) × EndsAt old.follows old new

-- another field follows than there is a column for; or none, though there is a column that takes no null in its place
abbrev pub HasOtherEnd : Bool → List ColumnType → ℕ → Follows → Type 0
HasOtherEnd lenient columns place (Another rest) = (length columns ≤ place) × (lenient ≡ false)
HasOtherEnd lenient columns place Nothing = (place < length columns) × (fitted lenient (drop place columns) [] ≡ [])
HasOtherEnd lenient columns place Row = ⊥

-- fields are passed over, and another row follows them
pub record PassesRow (walk : FieldWalk) (rest : List ℕ) : Type 0 where
  pub lenient : walk.is_lenient ≡ true
  pub past : length walk.columns.now ≤ walk.place
  pub more : 1 < length (field_rows walk.delimiter.byte rest)

-- another row follows, behind fields that are passed over if some are
abbrev pub HasOtherRow : Follows → FieldWalk → Type 0
HasOtherRow (Another rest) walk = PassesRow walk rest.now
HasOtherRow Nothing walk = ⊥
HasOtherRow Row walk = Unit {0}

-- why a walk does not go on: for want of memory only where fields may be passed over
abbrev pub EndsWalk : FieldWalk → RowReadError → Type 0
EndsWalk walk errors.Memory = walk.is_lenient ≡ true
EndsWalk walk (errors.Word column word) = ⊥
EndsWalk walk errors.FieldCount = HasOtherEnd walk.is_lenient walk.columns.now walk.place walk.follows
EndsWalk walk errors.LoneReturn = HasOtherRow walk.follows walk
