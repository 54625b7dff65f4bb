-- What is found by a plan is what a search finds.
use Rattle.std.specs.Prelude.{◌≡◌, ◌<◌, ◌^◌, ℕ, List, Option, Some, Ok, count_by, drop, length, sum_by}
use Rattle.std.specs.Io.KnownBytes.{Appends}
use Rattle.std.specs.List.{flat_map}
use Rattle.record_rows.specs.declared.schema.Schema.{Schema}
use Rattle.record_search.specs.Answers.{AnswersFindRows}
use Rattle.record_search.specs.Searched.{IsRowIndex, matches_record, records_under}
use Rattle.vortex_filter.specs.Formula.{Formula}
use Rattle.zone_index.specs.Sinks.{plain_record}
use Rattle.zone_index.specs.declared.search.Tally.{Tally}
use Rattle.zone_index.specs.declared.zones.Zone.{Zone}
use Rattle.zone_scans.specs.Found.{found_of}
use Rattle.zone_scans.specs.Laws.{counted_in_zone, found_in_zones, record_bytes}
use Rattle.file_search.specs.Sought.{planned_rows}

-- for bytes for which an index is right: what is found in the zones that are to be read, each alone, is what is found in all
-- records; there are as many as the zones count; and a search by the index writes the bytes that stand there
pub record FindsRows (s : Schema) (f : Formula) (start : ℕ) (zones : List Zone) (bytes : List ℕ) : Type 0 where
  pub found : found_in_zones s.delimiter.byte (matches_record s f) bytes (planned_rows s f zones) ≡ found_of (matches_record s f) start 0 (records_under s (drop start bytes))
  pub count : sum_by (counted_in_zone s.delimiter.byte (matches_record s f) bytes) (planned_rows s f zones) ≡ count_by (matches_record s f) (records_under s (drop start bytes))
  pub written : (first : ℕ) (old new : Option (List ℕ)) (tally : Tally) → length bytes < 2 ^ 64 → AnswersFindRows s f plain_record first zones (Some bytes) old new (Ok tally)
      → Appends old new (flat_map (record_bytes bytes) (found_in_zones s.delimiter.byte (matches_record s f) bytes (planned_rows s f zones)))

abbrev pub PlansFindRows : Type 0
PlansFindRows = (s : Schema) (f : Formula) (start : ℕ) (zones : List Zone) (bytes : List ℕ) → IsRowIndex s start zones bytes → FindsRows s f start zones bytes
