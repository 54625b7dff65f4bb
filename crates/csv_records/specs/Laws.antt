-- The laws of records and rows.
use Rattle.std.specs.Prelude.{◌≡◌, ℕ, List, [], ◌∷◌, ◌++◌, map, false, Option, None, Some}
use Rattle.std.specs.List.{concat}
use Rattle.csv.specs.Machine.{Read, next_record}
use Rattle.csv.specs.declared.parser.State.{State}
use Rattle.csv.specs.declared.parser.State.TheVariants as st
use Rattle.csv_records.specs.Records.{records_of}
use Rattle.csv_records.specs.Rows.{Field, config_of, rows_from, rows_of, state_after}

-- the fields of a row, as `csv` gives them
abbrev pub texts_of : List Field → List (List ℕ)
texts_of row = map (λ f. f.text) row

-- the rows from a state on are what the next read of `csv` gives, and those of the bytes that it leaves
abbrev pub AreNext : ℕ → Option Read → List (List Field) → Type 0
AreNext delimiter None rows = rows ≡ []
AreNext delimiter (Some read) rows = (first : List Field) × (read.0 ≡ texts_of first) × (rows ≡ first ∷ rows_from delimiter read.1 [] false read.2)

abbrev pub RowsAreRead : Type 0
RowsAreRead = (delimiter : ℕ) (s : State) (bytes : List ℕ) → AreNext delimiter (next_record (config_of delimiter) s [] [] bytes) (rows_from delimiter s [] false bytes)

-- cut where a record may start, the rows of a text are those of its two parts
abbrev pub CutsRows : Type 0
CutsRows = (delimiter : ℕ) (xs ys : List ℕ) → state_after delimiter st.StartRecord xs ≡ st.StartRecord → rows_of delimiter (xs ++ ys) ≡ rows_of delimiter xs ++ rows_of delimiter ys

abbrev pub RecordsAreParts : Type 0
RecordsAreParts = (delimiter : ℕ) (bytes : List ℕ) → concat (records_of delimiter bytes) ≡ bytes
