-- A setup whose columns are guessed.
use Rattle.std.specs.Prelude.{◌≡◌, ◌≢◌, ℕ, List, Bool, IsUtf8, length, if◌then◌else◌}
use Rattle.csv_columns.specs.Names.{texts}
use Rattle.csv_columns.specs.Setups.{IsDelimiter, IsSetup, SetupValue, setup_text, setup_value}
use Rattle.csv_columns.specs.declared.setup.Setup.{Setup}
use Rattle.setup_guessing.specs.Columns.{AreColumnsFor}
use Rattle.setup_guessing.specs.Records.{IsFront}

-- the setup of a file that begins with the text: the first record is the header if there is one, and at most a thousand records
-- behind it are looked at. All but the columns is as it is given
pub record IsGuessedSetup (given : Setup) (text : List ℕ) (has_header is_all : Bool) (setup : Setup) (start : ℕ) : Type 0 where
  pub header : List ℕ
  pub behind : List ℕ
  pub first : List ℕ
  pub others : List ℕ
  pub header_is : IsFront given.numbers.delimiter (if has_header then 1 else 0) is_all text header behind
  pub first_is : IsFront given.numbers.delimiter 1000 is_all behind first others
  pub start_is : start ≡ length header
  pub columns : AreColumnsFor given.numbers.delimiter (texts given.nulls.items) header first given.columns.items setup.columns.items
  pub numbers : setup.numbers ≡ given.numbers
  pub nulls : setup.nulls ≡ given.nulls
  pub delimiter : IsDelimiter given.numbers.delimiter

-- the bytes are the text of this setup
pub record IsSetupOf (text : List ℕ) (setup : Setup) : Type 0 where
  pub valid : IsSetup (setup_value setup)
  pub is : text ≡ setup_text (setup_value setup)

-- the bytes are the text of no setup that has a delimiter
abbrev pub IsNoSetup : List ℕ → Type 0
IsNoSetup text = (s : SetupValue) → IsSetup s → IsDelimiter s.numbers.delimiter → IsUtf8 text → text ≢ setup_text s

-- the setup that this is the text of, guessed for the one that is given as a text
pub record IsGuessedText (given text : List ℕ) (has_header is_all : Bool) (written : List ℕ) (start : ℕ) : Type 0 where
  pub given_setup : Setup
  pub setup : Setup
  pub given_is : IsSetupOf given given_setup
  pub guessed : IsGuessedSetup given_setup text has_header is_all setup start
  pub is : IsSetupOf written setup
