-- How a stream is read: as is said, and else as its first records are.
use Rattle.std.specs.Prelude.{◌≡◌, ◌⊎◌, ℕ, List, [], ◌∷◌, All, Bool, MatchBool, Option, None, Some, codes, is_some, length, map, min, if◌then◌else◌}
use Rattle.std.specs.Option.{option_copied}
use Rattle.std.specs.Str.{bytes_eq}
use Rattle.csv_columns.specs.Names.{IsLine, texts}
use Rattle.csv_columns.specs.Setups.{IsDelimiter}
use Rattle.csv_columns.specs.declared.column_words.NamedColumn.{NamedColumn}
use Rattle.csv_records.specs.Records.{records_of}
use Rattle.setup_guessing.specs.Columns.{AreGuessedWith, NeedsGuesses}
use Rattle.zone_index.specs.Taking.{IsTaken}
use Rattle.zone_map.specs.declared.commands.Reading.{Reading}
use Rattle.zone_map.specs.declared.preparing.Prepared.{Prepared}

-- the byte that a word says: the one that it has, a tab, or the one that stands for no delimiter
abbrev pub byte_said : List ℕ → Option ℕ
byte_said (b ∷ []) = Some b
byte_said word = if bytes_eq word (codes "tab") then Some 9 else if bytes_eq word (codes "none") then Some 255 else None

-- the byte between two fields: a comma if none is said
abbrev pub delimiter_said : Option (List ℕ) → Option ℕ
delimiter_said None = Some 44
delimiter_said (Some word) = byte_said word

-- the words that are nulls
abbrev pub nulls_said : Reading → List (List ℕ)
nulls_said reading = map (λ word. word.now) reading.nulls.items

-- so many records were read of a stream, or all that it had, and the rest is left
pub record IsRead (delimiter count : ℕ) (bytes text : List ℕ) (left : Option (List ℕ)) : Type 0 where
  pub taken : IsTaken delimiter bytes text left
  pub many : length (records_of delimiter text) ≡ min count (length (records_of delimiter bytes))

-- the header was read of a stream, if it has one, and the first thousand records behind it, if columns are guessed
pub record IsBegun (delimiter : ℕ) (has_header guesses : Bool) (bytes header first : List ℕ) (left : Option (List ℕ)) : Type 0 where
  pub behind : List ℕ
  pub header_is : IsRead delimiter (if has_header then 1 else 0) bytes header (Some behind)
  pub first_is : IsRead delimiter (if guesses then 1000 else 0) behind first left

-- the columns: those that are given, and those that are guessed if the header and these say so
abbrev pub AreColumnsBy : Bool → ℕ → List (List ℕ) → List ℕ → List ℕ → List NamedColumn → List NamedColumn → Type 0
AreColumnsBy guesses delimiter nulls header first given columns =
    MatchBool guesses
    (NeedsGuesses delimiter header given × AreGuessedWith delimiter nulls header first given columns)
    ((¬ (NeedsGuesses delimiter header given)) × (columns ≡ given))

-- a stream is read so that it is read as is said, and that what is not said of its columns is guessed
pub record IsPrepared (reading : Reading) (old left : Option (List ℕ)) (p : Prepared) : Type 0 where
  pub header : List ℕ
  pub given : List NamedColumn
  pub guesses : Bool
  pub delimiter : delimiter_said (option_copied reading.delimiter) ≡ Some p.setup.numbers.delimiter
  pub may_delimit : IsDelimiter p.setup.numbers.delimiter
  pub lenient : p.setup.numbers.is_lenient ≡ reading.is_lenient
  pub nulls : texts p.setup.nulls.items ≡ nulls_said reading
  pub lines : All IsLine (nulls_said reading)
  pub start : p.start ≡ length header
  pub begun : (bytes : List ℕ) → old ≡ Some bytes → IsBegun p.setup.numbers.delimiter reading.has_header guesses bytes header p.first.items left
  pub none_given : reading.columns ≡ None → given ≡ []
  pub columns : AreColumnsBy guesses p.setup.numbers.delimiter (texts p.setup.nulls.items) header p.first.items given p.setup.columns.items
  pub told : is_some p.told ≡ guesses
