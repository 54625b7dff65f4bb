-- What callers are told of searches.
use Rattle.std.specs.Prelude.{◌≡◌, ◌≢◌, ◌⊎◌, ◌<◌, ◌≤◌, ◌-◌, ◌^◌, ℕ, List, ◌++◌, Bool, true, false, Err, length, map, min}
use Rattle.record_rows.specs.declared.schema.Schema.{Schema}
use Rattle.record_search.specs.Refused.{RefusesRecord}
use Rattle.record_search.specs.Searched.{is_refused, matches_record, records_under}
use Rattle.vortex_filter.specs.Formula.{Formula}
use Rattle.zone_index.specs.Encoding.{RootValue, content_encoding, root_encoding}
use Rattle.zone_index.specs.EncodingReading.{root_at}
use Rattle.zone_index.specs.Errors.{IfRefused, IsOfRecord, TellsOffset, TellsOneOf, before_refused}
use Rattle.zone_index.specs.declared.encoding.EncodingError.{EncodingError}
use Rattle.zone_index.specs.declared.encoding.EncodingError.TheVariants.{Short}
use Rattle.zone_index.specs.declared.errors.Refusal.{Refusal}
use Rattle.zone_index.specs.declared.errors.SearchError.{SearchError}
use Rattle.zone_index.specs.declared.errors.SearchError.TheVariants.{Memory, Refused}
use Rattle.zone_index.specs.declared.records.Decision.{Decision}
use Rattle.zone_index.specs.declared.records.Decision.TheVariants.{AllMatch, NoneMatch, Unknown}
use Rattle.zone_index.specs.declared.zones.Position.{Position}
use Rattle.zone_index.specs.declared.zones.Way.{Way}
use Rattle.zone_index.specs.declared.zones.Way.TheVariants.{Copy, Search, Skip}
use Rattle.zone_scans.specs.Found.{IsFoundBefore, IsSearched}
use Rattle.zone_scans.specs.Roots.{BeginsAsIndex}
use Rattle.zone_scans.specs.declared.finding.FoundRecord.{FoundRecord}
use Rattle.zone_scans.specs.declared.finding.Searched.{Searched}
use Rattle.zone_scans.specs.declared.planning.PlannedZone.{PlannedZone}
use Rattle.zone_scans.specs.declared.planning.Purpose.{Purpose}
use Rattle.zone_scans.specs.declared.planning.Purpose.TheVariants.{Count, Find}
use Rattle.zone_scans.specs.declared.ranges.ByteRange.{ByteRange}
use Rattle.file_search.specs.Plans.{IsPlanFor, IsRead, NoBlocksFor, NoPlanFor, NotRead}
use Rattle.file_search.specs.Sought.{IsSought, IsUnsought}
use Rattle.file_search.specs.declared.index_bytes.PlanError.{PlanError}
use Rattle.file_search.specs.declared.index_bytes.PlanError.TheVariants.{BadRoot}
use Rattle.file_search.specs.declared.planning.Plan.{Plan}
use Rattle.file_search.specs.declared.sought.SoughtError.{SoughtError}
use Rattle.vortex_c.specs.SearchFaults.{fault_of_plan, fault_of_search, fault_of_sought, status_of_plan, status_of_search, status_of_sought}
use Rattle.vortex_c.specs.declared.search_faults.SearchFault.{SearchFault}
use Rattle.vortex_c.specs.declared.searches.IndexParts.{IndexParts}
use Rattle.vortex_c.specs.declared.searches.RecordPosition.{RecordPosition}
use Rattle.vortex_c.specs.declared.searches.ZoneParts.{ZoneParts}
use Rattle.vortex_c.specs.declared.status.TheConstants.{GIVEN, REFUSED}

-- ---- roots

-- the bytes begin as an index does, and each root that begins so has so many bytes, as far as 64 bits tell
pub record IsRootLength (head : List ℕ) (n : ℕ) : Type 0 where
  pub enough : 16 ≤ length head
  pub known : BeginsAsIndex head
  pub long : (r : RootValue) (more rest : List ℕ) → length (content_encoding r) < 2 ^ 64 → head ++ more ≡ root_encoding r ++ rest → n ≡ min (length (root_encoding r)) (2 ^ 64 - 1)

-- no index begins so: there are too few bytes, or none does, whatever follows
pub record IsNoHead (head : List ℕ) (cause : EncodingError) : Type 0 where
  pub short : cause ≡ Short → length head < 16
  pub other : cause ≢ Short → (more : List ℕ) → root_at (head ++ more) ≡ Err cause

abbrev pub SaysWhyNoRoot : List ℕ → SearchFault → SearchFault → ℕ → Type 0
SaysWhyNoRoot head before after status = (cause : EncodingError) × IsNoHead head cause × (status ≡ status_of_plan (BadRoot cause)) × (after ≡ fault_of_plan (BadRoot cause) before)

abbrev pub index_parts : RootValue → IndexParts
index_parts r = record { file_length = r.index.file_length; changed = r.index.changed; start = r.index.start; zone_count = length r.index.zones; block_count = length r.blocks }

-- the bytes begin with a root that says these parts
abbrev pub IsPartsOf : List ℕ → IndexParts → Type 0
IsPartsOf bytes parts = (root : RootValue) × (start : ℕ) × IsRead bytes root start × (parts ≡ index_parts root)

-- and that has this setup
abbrev pub IsSetupOfRoot : List ℕ → List ℕ → Type 0
IsSetupOfRoot bytes setup = (root : RootValue) × (start : ℕ) × IsRead bytes root start × (setup ≡ root.index.setup)

abbrev pub SaysWhyNotRead : List ℕ → SearchFault → SearchFault → ℕ → Type 0
SaysWhyNotRead bytes before after status = (cause : PlanError) × NotRead bytes cause × (status ≡ status_of_plan cause) × (after ≡ fault_of_plan cause before)

-- ---- plans

abbrev pub SaysWhyNoBlocks : ℕ → List ℕ → List ℕ → SearchFault → SearchFault → ℕ → Type 0
SaysWhyNoBlocks depth bytes words before after status = (cause : PlanError) × NoBlocksFor depth bytes words cause × (status ≡ status_of_plan cause) × (after ≡ fault_of_plan cause before)

abbrev pub purpose_of : Bool → Purpose
purpose_of true = Count
purpose_of false = Find

abbrev pub code_of_way : Way → ℕ
code_of_way Skip = 0
code_of_way Copy = 1
code_of_way Search = 2

abbrev pub code_of_decision : Decision → ℕ
code_of_decision NoneMatch = 0
code_of_decision AllMatch = 1
code_of_decision Unknown = 2

abbrev pub zone_parts : PlannedZone → ZoneParts
zone_parts z = record { place = z.range.place; length = z.range.length; records = z.records; rows = z.rows; number = z.number; way = code_of_way z.way; decision = code_of_decision z.decision }

-- the zones and the ranges are those of the plan of a search
pub record IsToldPlan (depth : ℕ) (bytes blocks words : List ℕ) (purpose : Purpose) (zones : List ZoneParts) (ranges : List ByteRange) : Type 0 where
  pub plan : Plan
  pub is : IsPlanFor depth bytes blocks words purpose plan
  pub zones_are : zones ≡ map zone_parts plan.zones.items
  pub ranges_are : ranges ≡ plan.ranges.items

abbrev pub SaysWhyNoPlan : ℕ → List ℕ → List ℕ → List ℕ → Purpose → SearchFault → SearchFault → ℕ → Type 0
SaysWhyNoPlan depth bytes blocks words purpose before after status = (cause : PlanError) × NoPlanFor depth bytes blocks words purpose cause × (status ≡ status_of_plan cause) × (after ≡ fault_of_plan cause before)

-- ---- records

abbrev pub start_of : RecordPosition → Position
start_of p = record { place = p.place; number = p.number }

-- so many records were found, and here the first one stands that was not judged
abbrev pub searched_at : ℕ → RecordPosition → Searched
searched_at count next = record { count = count; next = start_of next }

-- the same of a text
abbrev pub IsFoundIn : Schema → Formula → RecordPosition → List ℕ → Bool → List FoundRecord → ℕ → RecordPosition → Type 0
IsFoundIn schema f before text is_end found count after =
    IsSearched schema.delimiter.byte (matches_record schema f) (is_refused schema) (start_of before) text is_end found (searched_at count after)

-- the records are those on whose row the filter is true that the words are
pub record AreFoundBy (depth : ℕ) (setup words : List ℕ) (before : RecordPosition) (text : List ℕ) (is_end : Bool) (found : List FoundRecord) (count : ℕ) (after : RecordPosition) : Type 0 where
  pub schema : Schema
  pub f : Formula
  pub sought : IsSought depth setup words schema f
  pub found_in : IsFoundIn schema f before text is_end found count after

-- how many were found is told: all up to this place, or those before a record that is refused
abbrev pub TellsFound : ℕ → Type 0
TellsFound status = (status ≡ GIVEN) ⊎ (status ≡ REFUSED)

-- so many records were found of a text before a fault, and nothing else was written
abbrev pub IsPartIn : Schema → Formula → RecordPosition → List ℕ → Bool → List FoundRecord → List FoundRecord → Searched → SearchError → Type 0
IsPartIn schema f before text is_end old new searched fault =
    IsFoundBefore schema.delimiter.byte (matches_record schema f) (is_refused schema) (start_of before) text is_end old new searched fault

-- so many records match, by the filter that the words are, before the first one that is refused, and here that one begins
pub record AreFoundBefore (depth : ℕ) (setup words : List ℕ) (before : RecordPosition) (text : List ℕ) (is_end : Bool) (old new : List FoundRecord) (count : ℕ) (after : RecordPosition) : Type 0 where
  pub schema : Schema
  pub f : Formula
  pub sought : IsSought depth setup words schema f
  pub refusal : Refusal
  pub part : IsPartIn schema f before text is_end old new (searched_at count after) (Refused refusal)

-- some were found before memory ran out
pub record AreSomeFound (depth : ℕ) (setup words : List ℕ) (before : RecordPosition) (text : List ℕ) (is_end : Bool) (old new : List FoundRecord) : Type 0 where
  pub schema : Schema
  pub f : Formula
  pub sought : IsSought depth setup words schema f
  pub searched : Searched
  pub part : IsPartIn schema f before text is_end old new searched Memory

-- memory ran out, or this is the first record that is refused
pub record IsRefusal (schema : Schema) (place : ℕ) (text : List ℕ) (cause : SearchError) : Type 0 where
  pub why : IsOfRecord cause
  pub refused : IfRefused (TellsOneOf (RefusesRecord schema) place (records_under schema text)) cause
  pub first : IfRefused (TellsOffset place (before_refused (is_refused schema) (records_under schema text))) cause

abbrev pub SaysWhyRefused : Schema → RecordPosition → List ℕ → SearchFault → SearchFault → ℕ → Type 0
SaysWhyRefused schema position text before after status = (cause : SearchError) × IsRefusal schema position.place text cause × (status ≡ status_of_search cause) × (after ≡ fault_of_search cause before)

abbrev pub SaysWhyUnsought : ℕ → List ℕ → List ℕ → SearchFault → SearchFault → ℕ → Type 0
SaysWhyUnsought depth setup words before after status = (cause : SoughtError) × IsUnsought depth setup words cause × (status ≡ status_of_sought cause) × (after ≡ fault_of_sought cause before)

-- why no records were found: nothing is sought, or a record is refused
abbrev pub SaysWhyNotFound : ℕ → List ℕ → List ℕ → RecordPosition → List ℕ → SearchFault → SearchFault → ℕ → Type 0
SaysWhyNotFound depth setup words position text before after status =
    SaysWhyUnsought depth setup words before after status ⊎ ((schema : Schema) × (f : Formula) × IsSought depth setup words schema f × SaysWhyRefused schema position text before after status)
