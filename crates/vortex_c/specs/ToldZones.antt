-- The zones of a text, as they are told.
use Rattle.std.specs.Prelude.{◌≡◌, ℕ, List, ◌++◌, Bool, None, false, length, map, sum_by}
use Rattle.std.specs.List.{AllByRecursion, flat_map}
use Rattle.csv_records.specs.Records.{records_of}
use Rattle.zone_index.specs.Errors.{IfRefused, TellsOffset, TellsOneOf, before_refused}
use Rattle.zone_index.specs.Sinks.{told}
use Rattle.zone_index.specs.Zones.{HaveSizes, IsIndexOf}
use Rattle.zone_index.specs.declared.errors.Cause.{Cause}
use Rattle.zone_index.specs.declared.errors.SearchError.{SearchError}
use Rattle.zone_index.specs.declared.zones.Zone.{Zone}
use Rattle.vortex_c.specs.IndexCuts.{IsZoneCut}
use Rattle.vortex_c.specs.IndexZones.{index_zone}
use Rattle.vortex_c.specs.declared.index_zones.IndexZone.{IndexZone}

-- the zones are those of the front of a text, in numbers: each has so many records, but for the last one of the file
pub record AreToldZones (delimiter : ℕ) (has_row : List ℕ → Bool) (Describes : List ℕ → List (List ℕ) → Type 0) (is_refused : List ℕ → Bool) (nulls_of longer_of : List ℕ → ℕ) (size start : ℕ) (text : List ℕ) (is_end : Bool) (numbers : List IndexZone) (statistics : List ℕ) (taken nulls longer : ℕ) : Type 0 where
  pub front : List ℕ
  pub rest : List ℕ
  pub zones : List Zone
  pub cut : IsZoneCut delimiter size text is_end front rest
  pub index : (before : List ℕ) → length before ≡ start → IsIndexOf delimiter has_row Describes start zones (before ++ front)
  pub sizes : HaveSizes size zones
  pub full : is_end ≡ false → AllByRecursion (λ z. z.records ≡ size) zones
  pub passed : before_refused is_refused (records_of delimiter front) ≡ None
  pub numbers_are : numbers ≡ map index_zone zones
  pub statistics_are : statistics ≡ flat_map (λ z. z.statistics.items) zones
  pub taken_are : taken ≡ length front
  pub nulls_are : nulls ≡ told (sum_by nulls_of (records_of delimiter front))
  pub longer_are : longer ≡ told (sum_by longer_of (records_of delimiter front))

-- memory ran out, or this is the first record of the zones that is refused
pub record IsRefusedZone (delimiter : ℕ) (Refuses : List ℕ → Cause → Type 0) (is_refused : List ℕ → Bool) (size start : ℕ) (text : List ℕ) (is_end : Bool) (cause : SearchError) : Type 0 where
  pub front : List ℕ
  pub rest : List ℕ
  pub cut : IsZoneCut delimiter size text is_end front rest
  pub refused : IfRefused (TellsOneOf Refuses start (records_of delimiter front)) cause
  pub first : IfRefused (TellsOffset start (before_refused is_refused (records_of delimiter front))) cause
