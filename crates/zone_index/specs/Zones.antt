-- Zones of the records of a file, and when an index is right.
use Rattle.std.specs.Prelude.{◌≡◌, ◌<◌, ◌≤◌, ◌+◌, ◌==◌, ℕ, List, [], ◌∷◌, Bool, true, false, not, Option, None, Some, drop, length, take, count_by, Contains, if◌then◌else◌}
use Rattle.std.specs.List.{All, AllPass, flat_map}
use Rattle.csv_records.specs.Records.{records_of}
use Rattle.zone_index.specs.Records.{kept_of}
use Rattle.zone_index.specs.Asking.{IsWithin}
use Rattle.zone_index.specs.Errors.{before_refused}
use Rattle.zone_index.specs.declared.read_at.Asked.{Asked}
use Rattle.zone_index.specs.declared.records.Decision.{Decision}
use Rattle.zone_index.specs.declared.records.Decision.TheVariants as decisions
use Rattle.zone_index.specs.declared.zones.Way.{Way}
use Rattle.zone_index.specs.declared.zones.Way.TheVariants as ways
use Rattle.zone_index.specs.declared.zones.Zone.{Zone}

-- the bytes of a zone
abbrev pub zone_bytes : List ℕ → Zone → List ℕ
zone_bytes bytes z = take z.length (drop z.first bytes)

-- its records
abbrev pub zone_records : ℕ → List ℕ → Zone → List (List ℕ)
zone_records delimiter bytes z = records_of delimiter (zone_bytes bytes z)

-- what stands of a zone is so: it lies in the bytes, has so many records and rows, and its statistics describe them
pub record IsZoneOf (delimiter : ℕ) (has_row : List ℕ → Bool) (Describes : List ℕ → List (List ℕ) → Type 0) (bytes : List ℕ) (z : Zone) : Type 0 where
  pub inside : z.first + z.length ≤ length bytes
  pub records : z.records ≡ length (zone_records delimiter bytes z)
  pub rows : z.rows ≡ count_by has_row (zone_records delimiter bytes z)
  pub described : Describes z.statistics.items (zone_records delimiter bytes z)

-- a zone is of this text, which begins here
pub record IsZoneOfText (delimiter : ℕ) (has_row : List ℕ → Bool) (Describes : List ℕ → List (List ℕ) → Type 0) (first : ℕ) (text : List ℕ) (z : Zone) : Type 0 where
  pub begins : z.first ≡ first
  pub long : z.length ≡ length text
  pub records : z.records ≡ length (records_of delimiter text)
  pub rows : z.rows ≡ count_by has_row (records_of delimiter text)
  pub described : Describes z.statistics.items (records_of delimiter text)

-- the first zone begins here, each next one where the one before it ends, and the last one ends there
abbrev pub Follow : ℕ → List Zone → ℕ → Type 0
Follow at [] end = at ≡ end
Follow at (z ∷ zones) end = (z.first ≡ at) × Follow (at + z.length) zones end

-- the zones cover the bytes from an offset on, one after another; their records are those of the bytes, in order; each
-- zone is right
pub record IsIndexOf (delimiter : ℕ) (has_row : List ℕ → Bool) (Describes : List ℕ → List (List ℕ) → Type 0) (start : ℕ) (zones : List Zone) (bytes : List ℕ) : Type 0 where
  pub follow : Follow start zones (length bytes)
  pub records : records_of delimiter (drop start bytes) ≡ flat_map (zone_records delimiter bytes) zones
  pub right : All (IsZoneOf delimiter has_row Describes bytes) zones

-- each zone but the last has so many records; the last one has some, and no more
abbrev pub HaveSizes : ℕ → List Zone → Type 0
HaveSizes size [] = Unit {0}
HaveSizes size (z ∷ []) = (0 < z.records) × (z.records ≤ size)
HaveSizes size (z ∷ y ∷ zones) = (z.records ≡ size) × HaveSizes size (y ∷ zones)

-- as far as both go they are the same: a file that was cut since, or that grew
abbrev pub Agree : List ℕ → List ℕ → Type 0
Agree bytes was = take (length was) bytes ≡ take (length bytes) was

-- a reader has known bytes, which are these, or what was left of them, or more
pub record IsHeld (known : Option (List ℕ)) (was : List ℕ) : Type 0 where
  pub bytes : List ℕ
  pub is : known ≡ Some bytes
  pub agree : Agree bytes was

-- what is found in these zones
abbrev pub found_in : ℕ → (List ℕ → Bool) → List ℕ → List Zone → List ℕ
found_in delimiter keep bytes zones = flat_map (λ z. kept_of delimiter keep (zone_bytes bytes z)) zones

-- so many bytes behind this place, or else the other place
abbrev pub offset_or : ℕ → Option ℕ → Option ℕ → Option ℕ
offset_or first None other = other
offset_or first (Some n) other = Some (first + n)

-- where the first record of these zones begins that is refused; only of the zones that are read
abbrev pub refused_in : (List ℕ → Bool) → (Zone → Bool) → (Zone → List (List ℕ)) → List Zone → Option ℕ
refused_in is_refused is_read records [] = None
refused_in is_refused is_read records (z ∷ zones) =
    let others = refused_in is_refused is_read records zones in
    if is_read z then offset_or z.first (before_refused is_refused (records z)) others else others

-- ---- what becomes of a zone

-- by what its statistics decide. One with empty lines is not written whole, since these have no row
abbrev pub way_by : Decision → ℕ → ℕ → Way
way_by decisions.NoneMatch records rows = ways.Skip
way_by decisions.AllMatch records rows = if records == rows then ways.Copy else ways.Search
way_by decisions.Unknown records rows = ways.Search

abbrev pub way_of : (List ℕ → Decision) → Zone → Way
way_of decides z = way_by (decides z.statistics.items) z.records z.rows

abbrev pub is_skip : Way → Bool
is_skip ways.Skip = true
is_skip ways.Copy = false
is_skip ways.Search = false

abbrev pub is_copy : Way → Bool
is_copy ways.Skip = false
is_copy ways.Copy = true
is_copy ways.Search = false

abbrev pub is_search : Way → Bool
is_search ways.Skip = false
is_search ways.Copy = false
is_search ways.Search = true

abbrev pub is_skipped : (List ℕ → Decision) → Zone → Bool
is_skipped decides z = is_skip (way_of decides z)

abbrev pub is_copied : (List ℕ → Decision) → Zone → Bool
is_copied decides z = is_copy (way_of decides z)

abbrev pub is_searched : (List ℕ → Decision) → Zone → Bool
is_searched decides z = is_search (way_of decides z)

-- the way is right for a zone whose statistics are right: no record matches, or each
abbrev pub IsWayOf : ℕ → (List ℕ → Bool) → (List ℕ → List (List ℕ) → Type 0) → (List ℕ → Bool) → Zone → Way → Type 0
IsWayOf delimiter has_row Describes keep z ways.Skip = (bytes : List ℕ) → IsZoneOf delimiter has_row Describes bytes z → AllPass (λ line. not (keep line)) (zone_records delimiter bytes z)
IsWayOf delimiter has_row Describes keep z ways.Copy = (bytes : List ℕ) → IsZoneOf delimiter has_row Describes bytes z → AllPass keep (zone_records delimiter bytes z)
IsWayOf delimiter has_row Describes keep z ways.Search = Unit {0}

-- these bytes are of this zone, which is not skipped
abbrev pub AsksOfZone : (List ℕ → Decision) → Zone → Asked → Type 0
AsksOfZone decides z a = (is_skipped decides z ≡ false) × IsWithin z.first (z.first + z.length) a

-- these bytes are of a zone that is not skipped
pub record IsOfZone (decides : List ℕ → Decision) (zones : List Zone) (a : Asked) : Type 0 where
  pub zone : Zone
  pub among : Contains zones zone
  pub read : is_skipped decides zone ≡ false
  pub within : IsWithin zone.first (zone.first + zone.length) a

abbrev pub is_open : Decision → Bool
is_open decisions.NoneMatch = false
is_open decisions.AllMatch = false
is_open decisions.Unknown = true

-- whether the statistics of a zone decide nothing
abbrev pub is_undecided : (List ℕ → Decision) → Zone → Bool
is_undecided decides z = is_open (decides z.statistics.items)

-- these bytes are of this zone, whose statistics decide nothing
abbrev pub AsksInPart : (List ℕ → Decision) → Zone → Asked → Type 0
AsksInPart decides z a = (is_open (decides z.statistics.items) ≡ true) × IsWithin z.first (z.first + z.length) a

-- these bytes are of such a zone
pub record IsPartOfZone (decides : List ℕ → Decision) (zones : List Zone) (a : Asked) : Type 0 where
  pub zone : Zone
  pub among : Contains zones zone
  pub undecided : is_open (decides zone.statistics.items) ≡ true
  pub within : IsWithin zone.first (zone.first + zone.length) a
