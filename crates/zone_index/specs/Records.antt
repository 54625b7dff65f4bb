-- What holds of each record.
use Rattle.std.specs.Prelude.{◌≡◌, ℕ, List, Bool, true, false, not}
use Rattle.std.specs.List.{AllPass, concat, filter}
use Rattle.csv_records.specs.Records.{records_of}

-- whether two truths are the same
abbrev pub is_same : Bool → Bool → Bool
is_same true b = b
is_same false b = not b

-- a record of which it is said that it has a row has one
abbrev pub HasRowIf : Bool → Bool → Type 0
HasRowIf true has = has ≡ true
HasRowIf false has = Unit {0}

-- records of which it is said that each has a row have one each
abbrev pub HaveRowsIf : Bool → (List ℕ → Bool) → List (List ℕ) → Type 0
HaveRowsIf true has_row records = AllPass has_row records
HaveRowsIf false has_row records = Unit {0}

-- the records that match, whole and in order
abbrev pub kept_records : ℕ → (List ℕ → Bool) → List ℕ → List (List ℕ)
kept_records delimiter keep bytes = filter keep (records_of delimiter bytes)

-- the bytes of these
abbrev pub kept_of : ℕ → (List ℕ → Bool) → List ℕ → List ℕ
kept_of delimiter keep bytes = concat (kept_records delimiter keep bytes)
