-- A file that may have grown since it was indexed.
use Rattle.std.specs.Prelude.{◌≡◌, ◌≢◌, ◌<◌, ◌+◌, ◌-◌, ◌++◌, ◌⊎◌, ℕ, List, [], ◌∷◌, Bool, false, true, Option, None, Some, drop, length, max, slice_get, take}
use Rattle.csv_records.specs.Records.{is_start, state_at}
use Rattle.csv_records.specs.Rows.{state_after}
use Rattle.csv_records.specs.declared.states.RecordState.TheVariants.{StartRecord}
use Rattle.record_search.specs.Words.{HaveSizes, IsFullRowIndex, before_refused, is_refused, records_under}
use Rattle.record_rows.specs.declared.schema.Schema.{Schema}
use Rattle.zone_index.specs.declared.zones.Zone.{Zone}
use Rattle.zone_map.specs.Zones.{IsOnly}

-- whether a record may start behind a text that begins where one does
abbrev pub ends_record : ℕ → List ℕ → Bool
ends_record delimiter text = is_start (state_after delimiter (state_at StartRecord) text)

abbrev pub last_zone : List Zone → Option Zone
last_zone zones = slice_get zones (length zones - 1)

-- where the last part begins that is indexed: the last zone, or the header where there is no zone
abbrev pub part_start : Option Zone → ℕ
part_start None = 0
part_start (Some zone) = zone.first

-- how many bytes it has, behind a header of so many if it is a zone
abbrev pub part_length : ℕ → Option Zone → ℕ
part_length start None = start
part_length start (Some zone) = zone.length

abbrev pub part_end : ℕ → Option Zone → ℕ
part_end start last = part_start last + part_length start last

-- what a file of these bytes has there
abbrev pub part_of : ℕ → Option Zone → List ℕ → List ℕ
part_of start last bytes = take (part_length start last) (drop (part_start last) bytes)

-- the zone says all that is to be known of this text, which stands behind other bytes
abbrev pub IsZoneAgain : ℕ → Schema → Zone → List ℕ → List ℕ → Type 0
IsZoneAgain n s zone before text = IsFullRowIndex n s zone.first (zone ∷ []) (before ++ text)

-- a record of the text is refused, or an index of it that says all that is to be known has other zones
abbrev pub IsOtherZone : ℕ → Schema → Zone → List ℕ → List ℕ → Type 0
IsOtherZone n s zone before text =
    (before_refused (is_refused s) (records_under s text) ≢ None)
    ⊎ ((zones : List Zone) × IsFullRowIndex n s zone.first zones (before ++ text) × HaveSizes (max zone.records 1) zones × ¬ (IsOnly zones zone))

-- a file of these bytes has in the place of the last zone what was indexed there
abbrev pub IsSamePart : ℕ → Schema → Option Zone → List ℕ → Type 0
IsSamePart n s None bytes = Unit {0}
IsSamePart n s (Some zone) bytes = IsZoneAgain n s zone (take zone.first bytes) (take zone.length (drop zone.first bytes))

-- it has something else there
abbrev pub IsOtherPart : ℕ → Schema → Option Zone → List ℕ → Type 0
IsOtherPart n s None bytes = ⊥
IsOtherPart n s (Some zone) bytes = IsOtherZone n s zone (take zone.first bytes) (take zone.length (drop zone.first bytes))

-- a file of so many bytes, which are these, only grew since it was indexed: the last zone is what it was, and the file ends
-- with it, or a record does
pub record HasGrown (n : ℕ) (s : Schema) (size start : ℕ) (last : Option Zone) (bytes : List ℕ) : Type 0 where
  pub same : IsSamePart n s last bytes
  pub ends : (part_end start last ≡ size) ⊎ (ends_record s.delimiter.byte (part_of start last bytes) ≡ true)

-- it changed otherwise: it is shorter than it was indexed, or the last zone is another, or a record goes on behind it
abbrev pub HasChanged : ℕ → Schema → ℕ → ℕ → Option Zone → List ℕ → Type 0
HasChanged n s size start last bytes =
    (size < part_end start last)
    ⊎ IsOtherPart n s last bytes
    ⊎ ((part_end start last ≢ size) × (ends_record s.delimiter.byte (part_of start last bytes) ≡ false))
