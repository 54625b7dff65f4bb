-- Where a text is cut into zones of so many records.
use Rattle.std.specs.Prelude.{◌≡◌, ◌<◌, ◌*◌, ℕ, List, ◌∷◌, ◌++◌, Bool, false, true, [], length}
use Rattle.csv.specs.declared.parser.State.TheVariants.{StartRecord}
use Rattle.csv_records.specs.Lemmas.RecordLaws.{EndsRecord}
use Rattle.csv_records.specs.Records.{records_of}
use Rattle.zone_index.specs.Taking.{AreWhole}

-- the first record of a text, if there is one, does not end with a line feed behind which another may start
abbrev pub HasNoWhole : ℕ → List ℕ → Type 0
HasNoWhole delimiter text = (line : List ℕ) (others : List (List ℕ)) → records_of delimiter text ≡ line ∷ others → ¬ (EndsRecord delimiter line)

-- a text begins with fewer whole records than a zone has, and behind them is none
pub record HasNoZone (delimiter size : ℕ) (text : List ℕ) : Type 0 where
  pub count : ℕ
  pub front : List ℕ
  pub rest : List ℕ
  pub few : count < size
  pub parts : text ≡ front ++ rest
  pub whole : AreWhole delimiter StartRecord count front
  pub none : HasNoWhole delimiter rest

-- a text is cut behind the last full zone that it begins with, whatever follows it. Where the file ends with it, nothing is left
pub record IsZoneCut (delimiter size : ℕ) (text : List ℕ) (is_end : Bool) (front rest : List ℕ) : Type 0 where
  pub parts : text ≡ front ++ rest
  pub records : records_of delimiter text ≡ records_of delimiter front ++ records_of delimiter rest
  pub certain : is_end ≡ false → (more : List ℕ) → records_of delimiter (text ++ more) ≡ records_of delimiter front ++ records_of delimiter (rest ++ more)
  pub full : is_end ≡ false → (zones : ℕ) × (length (records_of delimiter front) ≡ zones * size)
  pub left : is_end ≡ false → HasNoZone delimiter size rest
  pub all : is_end ≡ true → rest ≡ []
