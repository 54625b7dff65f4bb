-- Whole records are taken from the front of a stream.
use Rattle.std.specs.Prelude.{◌≡◌, ◌≢◌, ◌≤◌, ◌⊎◌, ℕ, List, [], ◌++◌, Bool, Option, None, Some, length}
use Rattle.csv.specs.declared.parser.State.{State}
use Rattle.csv.specs.declared.parser.State.TheVariants as st
use Rattle.csv_records.specs.Lemmas.RecordLaws.{EndsRecord}
use Rattle.csv_records.specs.Records.{records_of}
use Rattle.zone_index.specs.Errors.{before_refused}

-- the text was taken from the front of the bytes, whole records of it, and the rest is left
pub record IsTaken (delimiter : ℕ) (bytes text : List ℕ) (left : Option (List ℕ)) : Type 0 where
  pub rest : List ℕ
  pub is : left ≡ Some rest
  pub parts : bytes ≡ text ++ rest
  pub records : records_of delimiter bytes ≡ records_of delimiter text ++ records_of delimiter rest

-- so many whole records, after an offset where one may start; another may start behind them. Or no bytes, and none
abbrev pub AreWhole : ℕ → State → ℕ → List ℕ → Type 0
AreWhole delimiter s count bytes = ((bytes ≡ []) × (count ≡ 0)) ⊎ ((s ≡ st.StartRecord) × EndsRecord delimiter bytes × (length (records_of delimiter bytes) ≡ count))

-- what is left of the bytes stands behind a block of so many records at most, in which the first one is that is refused
pub record StandsBehind (delimiter size : ℕ) (is_refused : List ℕ → Bool) (bytes : List ℕ) (left : Option (List ℕ)) : Type 0 where
  pub before : List (List ℕ)
  pub block : List (List ℕ)
  pub rest : List ℕ
  pub is : left ≡ Some rest
  pub records : records_of delimiter bytes ≡ before ++ (block ++ records_of delimiter rest)
  pub few : length block ≤ size
  pub passed : before_refused is_refused before ≡ None
  pub refused : before_refused is_refused block ≢ None
