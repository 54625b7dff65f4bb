-- Columns that are guessed from the first records.
use Rattle.std.specs.Prelude.{◌≡◌, ◌≢◌, ◌<◌, ◌==◌, ℕ, zero, suc, List, [], ◌∷◌, All, Bool, Contains, IsUtf8, Some, drop, length, map, max, nat_eq, nat_lt, not, slice_get, string_bytes, if◌then◌else◌}
use Rattle.std.specs.List.{flat_map, starts_with}
use Rattle.std.specs.Str.{is_utf8}
use Rattle.csv_records.specs.Records.{records_of}
use Rattle.csv_records.specs.Rows.{Field, field_rows, rows_of}
use Rattle.csv_records.specs.declared.fields.Follows.{Follows}
use Rattle.csv_records.specs.declared.fields.Follows.TheVariants.{Another, Nothing, Row}
use Rattle.record_rows.specs.Cells.{HasCell, HasMeaning}
use Rattle.record_rows.specs.Readings.{Reading, is_null_field}
use Rattle.record_rows.specs.declared.schema.ColumnType.{ColumnType}
use Rattle.record_rows.specs.declared.schema.Kind.TheVariants.{Utf8}
use Rattle.vortex_dtype.specs.declared.nullability.Nullability.TheVariants.{Nullable}
use Rattle.csv_columns.specs.Kinds.{IsGuessed, Sees, are_numbers_as_texts, guess_of}
use Rattle.csv_columns.specs.declared.column_words.NamedColumn.{NamedColumn}
use Rattle.csv_columns.specs.declared.guessing.SeenField.{SeenField}
use Rattle.csv_columns.specs.declared.kinds.Guess.{Guess}

-- ---- fields

-- how much may be cut: the bytes of the fields that follow, and one for the first of these
abbrev pub left_of : Follows → ℕ
left_of (Another rest) = suc (length rest.now)
left_of Nothing = 0
left_of Row = 0

-- the fields of the first row, and none where there is no row
abbrev pub first_row : List (List Field) → List Field
first_row [] = []
first_row (row ∷ rows) = row

-- the fields of a record: those of its first row
abbrev pub fields_of : ℕ → List ℕ → List Field
fields_of delimiter line = first_row (rows_of delimiter line)

-- the fields that follow one in its row
abbrev pub fields_left : ℕ → Follows → List Field
fields_left delimiter (Another rest) = first_row (field_rows delimiter rest.now)
fields_left delimiter Nothing = []
fields_left delimiter Row = []

abbrev pub field_of : SeenField → Field
field_of seen = record { text = seen.word.now; is_quoted = seen.is_quoted }

-- ---- the words of columns

-- the word of a field, if it is no null
abbrev pub word_of : Reading → Field → List (List ℕ)
word_of reading f = if is_null_field reading Nullable f then [] else f.text ∷ []

-- the word of column k in a row, if the row has the column and no null there
abbrev pub word_at : Reading → ℕ → List Field → List (List ℕ)
word_at reading k [] = []
word_at reading zero (f ∷ fs) = word_of reading f
word_at reading (suc k) (f ∷ fs) = word_at reading k fs

-- the words of a column, from the first row on
abbrev pub words_at : Reading → ℕ → List (List Field) → List (List ℕ)
words_at reading k rows = flat_map (word_at reading k) rows

-- the records of a text, each as its fields
abbrev pub field_lists : ℕ → List ℕ → List (List Field)
field_lists delimiter text = map (fields_of delimiter) (records_of delimiter text)

-- how many columns are guessed: as many as the first row with fields has
abbrev pub width_of : List (List Field) → ℕ
width_of [] = 0
width_of ([] ∷ rows) = width_of rows
width_of ((f ∷ fs) ∷ rows) = suc (length fs)

-- each guess has seen just the words of its column
abbrev pub See : (ℕ → List (List ℕ)) → List Guess → Type 0
See words guesses = (k : ℕ) (guess : Guess) → slice_get guesses k ≡ Some guess → Sees guess (words k)

-- the guesses for columns of such rows
pub record AreGuesses (reading : Reading) (rows : List (List Field)) (guesses : List Guess) : Type 0 where
  pub count : length guesses ≡ width_of rows
  pub see : See (λ k. words_at reading k rows) guesses

-- the words of a column that is guessed; none of one that only the header has
abbrev pub column_words : Reading → List (List Field) → ℕ → List (List ℕ)
column_words reading rows k = if nat_lt k (width_of rows) then words_at reading k rows else []

-- the column is guessed for these words, and takes nulls
pub record IsColumn (words : List (List ℕ)) (column : ColumnType) : Type 0 where
  pub kind : IsGuessed (guess_of words) column.kind
  pub nulls : column.nullability ≡ Nullable
  pub fits : column.kind ≢ Utf8 → All (HasMeaning column.kind) words

abbrev pub AreColumns : (ℕ → List (List ℕ)) → List NamedColumn → Type 0
AreColumns words columns = (k : ℕ) (named : NamedColumn) → slice_get columns k ≡ Some named → IsColumn (words k) named.column

-- whether the words of each column are numbers, and are guessed to be texts all the same
abbrev pub HaveNumbers : (ℕ → List (List ℕ)) → List Bool → Type 0
HaveNumbers words flags = (k : ℕ) (flag : Bool) → slice_get flags k ≡ Some flag → flag ≡ are_numbers_as_texts (words k)

-- each guessed column takes each field that stands in it in these rows; one of texts takes those in UTF-8
abbrev pub TakeFields : Reading → List (List Field) → List NamedColumn → Type 0
TakeFields reading rows columns = (k : ℕ) (named : NamedColumn) (row : List Field) (f : Field) → slice_get columns k ≡ Some named → k < width_of rows → Contains rows row → slice_get row k ≡ Some f → (named.column.kind ≡ Utf8 → IsUtf8 f.text) → HasCell reading named.column f

-- ---- names

-- a text without a byte order mark in front
abbrev pub without_mark : List ℕ → List ℕ
without_mark text = if starts_with nat_eq text (239 ∷ 187 ∷ 191 ∷ []) then drop 3 text else text

-- the name that a field of the header is, and none if it is not UTF-8
abbrev pub name_in : Field → List ℕ
name_in f = if is_utf8 f.text then f.text else []

abbrev pub header_names : ℕ → List ℕ → List (List ℕ)
header_names delimiter header = map name_in (fields_of delimiter (without_mark header))

abbrev pub column_names : List NamedColumn → List (List ℕ)
column_names columns = map (λ (named : NamedColumn). string_bytes named.name) columns

-- as many columns as the first row or the header has fields, and one at least
abbrev pub column_count : List (List Field) → List (List ℕ) → ℕ
column_count rows given = max (max (width_of rows) (length given)) 1

-- whether the byte divides lines into fields, as each does but the one that stands for no delimiter
abbrev pub divides : ℕ → Bool
divides byte = not (byte == 255)

-- the header names each of these columns, and others
abbrev pub NamesOthers : List (List ℕ) → List (List ℕ) → Type 0
NamesOthers header given = (length given < length header) × All (Contains header) given
