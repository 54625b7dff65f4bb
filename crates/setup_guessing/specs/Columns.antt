-- The columns of a file: those that are given, and those that are guessed.
use Rattle.std.specs.Prelude.{◌≡◌, ◌≢◌, ◌⊎◌, ℕ, List, [], All, AllPairs, false, length, map, option_map, string_bytes, unwrap_or}
use Rattle.std.specs.List.{find}
use Rattle.std.specs.Str.{bytes_eq}
use Rattle.record_rows.specs.Readings.{Reading}
use Rattle.record_rows.specs.declared.schema.ColumnType.{ColumnType}
use Rattle.csv_columns.specs.Guesses.{AreColumns, NamesOthers, TakeFields, column_count, column_names, column_words, divides, field_lists, header_names}
use Rattle.csv_columns.specs.Names.{AreGivenOrMade, IsName, KeepsNames}
use Rattle.csv_columns.specs.declared.column_words.NamedColumn.{NamedColumn}

-- what the first column of this one's name takes, and this one itself if there is none
abbrev pub column_for : List NamedColumn → NamedColumn → ColumnType
column_for given named = unwrap_or (option_map (λ (g : NamedColumn). g.column) (find (λ (g : NamedColumn). bytes_eq (string_bytes g.name) (string_bytes named.name)) given)) named.column

-- a column, as it is given if it is
abbrev pub with_given : List NamedColumn → NamedColumn → NamedColumn
with_given given named = record { name = named.name; column = column_for given named }

-- these words are nulls, and a field that its column does not take is none
abbrev pub reading_with : List (List ℕ) → Reading
reading_with nulls = record { is_lenient = false; nulls = nulls }

-- columns that are guessed from these records, as csv_columns guesses them: named by the header
pub record AreGuessedFrom (delimiter : ℕ) (nulls : List (List ℕ)) (header records : List ℕ) (columns : List NamedColumn) : Type 0 where
  pub count : length columns ≡ column_count (field_lists delimiter records) (header_names delimiter header)
  pub valid : All IsName (column_names columns)
  pub distinct : AllPairs (λ a b. a ≢ b) (column_names columns)
  pub kept : KeepsNames (header_names delimiter header) (column_names columns)
  pub made : AreGivenOrMade (divides delimiter) (header_names delimiter header) (column_names columns)
  pub columns_are : AreColumns (column_words (reading_with nulls) (field_lists delimiter records)) columns
  pub take_fields : TakeFields (reading_with nulls) (field_lists delimiter records) columns

-- columns are guessed if none is given, or if the header names each that is given and others
abbrev pub NeedsGuesses : ℕ → List ℕ → List NamedColumn → Type 0
NeedsGuesses delimiter header given = (given ≡ []) ⊎ NamesOthers (header_names delimiter header) (column_names given)

-- the columns are those that are guessed, but for what is given of them
abbrev pub AreGuessedWith : ℕ → List (List ℕ) → List ℕ → List ℕ → List NamedColumn → List NamedColumn → Type 0
AreGuessedWith delimiter nulls header records given columns =
    (guessed : List NamedColumn) × AreGuessedFrom delimiter nulls header records guessed × (columns ≡ map (with_given given) guessed)

-- the columns of a file with this header, which begins with these records
abbrev pub AreColumnsFor : ℕ → List (List ℕ) → List ℕ → List ℕ → List NamedColumn → List NamedColumn → Type 0
AreColumnsFor delimiter nulls header records given columns =
    (NeedsGuesses delimiter header given × AreGuessedWith delimiter nulls header records given columns)
    ⊎ (¬ (NeedsGuesses delimiter header given) × (columns ≡ given))
