-- What is found zone by zone, of a file whose index is right.
use Rattle.std.specs.Prelude.{◌≡◌, ◌≤◌, ◌<◌, ◌+◌, ◌^◌, ℕ, List, Bool, count_by, drop, length, not, sum_by, take}
use Rattle.std.specs.List.{AllPass, filter, flat_map}
use Rattle.csv_records.specs.Records.{records_of}
use Rattle.zone_index.specs.Records.{is_same, kept_of}
use Rattle.zone_index.specs.Zones.{IsIndexOf}
use Rattle.zone_index.specs.declared.records.Decision.{Decision}
use Rattle.zone_index.specs.declared.records.Decision.TheVariants.{AllMatch, NoneMatch, Unknown}
use Rattle.zone_index.specs.declared.zones.Zone.{Zone}
use Rattle.zone_scans.specs.Found.{found_of}
use Rattle.zone_scans.specs.Planning.{is_read, planned_from}
use Rattle.zone_scans.specs.Ranges.{range_bytes}
use Rattle.zone_scans.specs.declared.finding.FoundRecord.{FoundRecord}
use Rattle.zone_scans.specs.declared.planning.PlannedZone.{PlannedZone}
use Rattle.zone_scans.specs.declared.planning.Purpose.TheVariants.{Find}

-- what statistics decide is so of the records that they are right for
pub record AreSound (decides : List ℕ → Decision) (Describes : List ℕ → List (List ℕ) → Type 0) (has_row matches : List ℕ → Bool) : Type 0 where
  pub none : (bytes : List ℕ) (records : List (List ℕ)) → decides bytes ≡ NoneMatch → Describes bytes records → AllPass (λ line. not (matches line)) records
  pub all : (bytes : List ℕ) (records : List (List ℕ)) → decides bytes ≡ AllMatch → Describes bytes records → AllPass (λ line. is_same (matches line) (has_row line)) records

-- what is found in a zone, searched alone
abbrev pub found_in_zone : ℕ → (List ℕ → Bool) → List ℕ → PlannedZone → List FoundRecord
found_in_zone delimiter matches bytes z = found_of matches z.range.place z.number (records_of delimiter (range_bytes bytes z.range))

-- in the zones that are to be read
abbrev pub found_in_zones : ℕ → (List ℕ → Bool) → List ℕ → List PlannedZone → List FoundRecord
found_in_zones delimiter matches bytes zones = flat_map (found_in_zone delimiter matches bytes) (filter (is_read Find) zones)

-- how many records match in a zone; those that its statistics decide of are not searched
abbrev pub counted_by : Decision → ℕ → ℕ → ℕ
counted_by NoneMatch rows found = 0
counted_by AllMatch rows found = rows
counted_by Unknown rows found = found

abbrev pub counted_in_zone : ℕ → (List ℕ → Bool) → List ℕ → PlannedZone → ℕ
counted_in_zone delimiter matches bytes z = counted_by z.decision z.rows (count_by matches (records_of delimiter (range_bytes bytes z.range)))

-- the bytes of a record that was found
abbrev pub record_bytes : List ℕ → FoundRecord → List ℕ
record_bytes bytes f = take f.length (drop f.place bytes)

-- what is found zone by zone is what is found in all records
abbrev pub PlansFindAll : ℕ → (List ℕ → Bool) → (List ℕ → Bool) → (List ℕ → List (List ℕ) → Type 0) → (List ℕ → Decision) → Type 0
PlansFindAll delimiter has_row matches Describes decides = (start first : ℕ) (zones : List Zone) (bytes : List ℕ)
    → AreSound decides Describes has_row matches → IsIndexOf delimiter has_row Describes start zones bytes
    → found_in_zones delimiter matches bytes (planned_from decides first zones) ≡ found_of matches start first (records_of delimiter (drop start bytes))

-- and so is how many they are
abbrev pub PlansCountAll : ℕ → (List ℕ → Bool) → (List ℕ → Bool) → (List ℕ → List (List ℕ) → Type 0) → (List ℕ → Decision) → Type 0
PlansCountAll delimiter has_row matches Describes decides = (start first : ℕ) (zones : List Zone) (bytes : List ℕ)
    → AreSound decides Describes has_row matches → IsIndexOf delimiter has_row Describes start zones bytes
    → sum_by (counted_in_zone delimiter matches bytes) (planned_from decides first zones) ≡ count_by matches (records_of delimiter (drop start bytes))

-- at the places that are told the records stand that match, and these are what a search writes
abbrev pub FoundRecordsAreKept : Type 0
FoundRecordsAreKept = (delimiter : ℕ) (matches : List ℕ → Bool) (start first : ℕ) (bytes : List ℕ) → start ≤ length bytes → length bytes < 2 ^ 64
    → flat_map (record_bytes bytes) (found_of matches start first (records_of delimiter (drop start bytes))) ≡ kept_of delimiter matches (drop start bytes)
