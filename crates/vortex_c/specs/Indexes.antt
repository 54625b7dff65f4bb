-- What callers are told of indexes that they make.
use Rattle.std.specs.Prelude.{◌≡◌, ◌≢◌, ◌⊎◌, ◌≤◌, ◌<◌, ◌+◌, ◌^◌, ℕ, List, Bool, length, max, sum_by}
use Rattle.csv_columns.specs.Setups.{IsSchema}
use Rattle.csv_columns.specs.declared.setup.Numbers.{Numbers}
use Rattle.csv_columns.specs.declared.setup.Setup.{Setup}
use Rattle.file_search.specs.Sought.{IsSetupOf, IsUnread}
use Rattle.file_search.specs.declared.sought.SoughtError.{SoughtError}
use Rattle.record_rows.specs.declared.schema.Schema.{Schema}
use Rattle.record_search.specs.Refused.{RefusesRecord}
use Rattle.record_search.specs.Searched.{DescribeRowsFully, has_row, is_refused, longer_under, nulls_under}
use Rattle.zone_index.specs.Encoding.{HavePieces}
use Rattle.zone_index.specs.declared.errors.SearchError.{SearchError}
use Rattle.vortex_c.specs.IndexZones.{IsWritten, index_of, zones_cut}
use Rattle.vortex_c.specs.SearchFaults.{fault_of_search, fault_of_sought, status_of_search, status_of_sought, told_at}
use Rattle.vortex_c.specs.ToldZones.{AreToldZones, IsRefusedZone}
use Rattle.vortex_c.specs.declared.index_zones.IndexZone.{IndexZone}
use Rattle.vortex_c.specs.declared.indexes.IndexLengths.{IndexLengths}
use Rattle.vortex_c.specs.declared.search_faults.SearchFault.{SearchFault}
use Rattle.vortex_c.specs.declared.status.TheConstants.{BAD_BYTES, BAD_OFFSETS, NO_MEMORY, WRONG_LENGTH}

-- how many records a zone has
abbrev pub zone_size : Numbers → ℕ
zone_size numbers = max numbers.zone_rows 1

-- ---- zones

-- the zones of rows that a text begins with, in numbers: what their statistics say is all that is to be known
abbrev pub AreRowZones : Numbers → Schema → ℕ → List ℕ → Bool → List IndexZone → List ℕ → IndexLengths → Type 0
AreRowZones numbers s start text is_end zones statistics lengths =
    AreToldZones s.delimiter.byte (has_row s) (DescribeRowsFully numbers.bound_length s) (is_refused s) (nulls_under s) (longer_under s) (zone_size numbers) start text is_end zones statistics lengths.taken lengths.nulls lengths.longer

-- those of a file that is read as the text of a setup says. The text ends where 64 bits tell it
pub record AreZonesBy (setup : List ℕ) (start : ℕ) (text : List ℕ) (is_end : Bool) (zones : List IndexZone) (statistics : List ℕ) (lengths : IndexLengths) : Type 0 where
  pub read : Setup
  pub schema : Schema
  pub is : IsSetupOf setup read
  pub schema_is : IsSchema read schema
  pub near : start + length text < 2 ^ 64
  pub zones_are : AreRowZones read.numbers schema start text is_end zones statistics lengths

-- the text ends past all that 64 bits tell; or memory ran out, or a record is refused
abbrev pub SaysWhyNoZones : Numbers → Schema → ℕ → List ℕ → Bool → SearchFault → SearchFault → ℕ → Type 0
SaysWhyNoZones numbers s start text is_end before after status =
    ((status ≡ BAD_OFFSETS) × (2 ^ 64 ≤ start + length text) × (after ≡ told_at 0 0 0))
    ⊎ ((cause : SearchError) × IsRefusedZone s.delimiter.byte (RefusesRecord s) (is_refused s) (zone_size numbers) start text is_end cause × (status ≡ status_of_search cause) × (after ≡ fault_of_search cause before))

-- memory ran out, or the text is of no setup
abbrev pub SaysWhyUnread : List ℕ → SearchFault → SearchFault → ℕ → Type 0
SaysWhyUnread setup before after status = (cause : SoughtError) × IsUnread setup cause × (status ≡ status_of_sought cause) × (after ≡ fault_of_sought cause before)

-- why there are no zones: the setup is not read, or the text is not
abbrev pub SaysWhyNotIndexed : List ℕ → ℕ → List ℕ → Bool → SearchFault → SearchFault → ℕ → Type 0
SaysWhyNotIndexed setup start text is_end before after status =
    SaysWhyUnread setup before after status ⊎ ((read : Setup) × (schema : Schema) × IsSetupOf setup read × IsSchema read schema × SaysWhyNoZones read.numbers schema start text is_end before after status)

-- ---- bytes

-- the statistics are as long as the zones say, and the bytes are the encoding of the index that has these
pub record AreIndexBytes (columns : ℕ) (setup : List ℕ) (file_length changed start : ℕ) (zones : List IndexZone) (statistics bytes : List ℕ) : Type 0 where
  pub long : sum_by (λ z. z.statistics) zones ≡ length statistics
  pub written : IsWritten columns (index_of setup file_length changed start zones statistics) bytes

-- the same, of as many columns as the setup has
pub record IsIndexBy (setup : List ℕ) (file_length changed start : ℕ) (zones : List IndexZone) (statistics bytes : List ℕ) : Type 0 where
  pub read : Setup
  pub is : IsSetupOf setup read
  pub bytes_are : AreIndexBytes (length read.columns.items) setup file_length changed start zones statistics bytes

-- memory ran out, or the statistics are longer or shorter than the zones say, or those of a zone are not a piece for each column
abbrev pub SaysWhyNoBytes : ℕ → List IndexZone → List ℕ → SearchFault → SearchFault → ℕ → Type 0
SaysWhyNoBytes columns zones statistics before after status =
    ((status ≡ NO_MEMORY) × (after ≡ before))
    ⊎ (((status ≡ WRONG_LENGTH) × (sum_by (λ z. z.statistics) zones ≢ length statistics) × (after ≡ before))
    ⊎ ((status ≡ BAD_BYTES) × ((pieces : List (List (List ℕ))) → ¬ (HavePieces columns (zones_cut zones statistics) pieces)) × (after ≡ told_at 0 3 0)))

-- why no index is written: the setup is not read, or there are no bytes
abbrev pub SaysWhyNotWritten : List ℕ → List IndexZone → List ℕ → SearchFault → SearchFault → ℕ → Type 0
SaysWhyNotWritten setup zones statistics before after status =
    SaysWhyUnread setup before after status ⊎ ((read : Setup) × IsSetupOf setup read × SaysWhyNoBytes (length read.columns.items) zones statistics before after status)
