-- What a search by an index writes is what a search of the whole file does.
use Rattle.std.proofs.Common.{◌≡◌, ℕ, List, ◌++◌, Option, Some, Ok, refl, subst, length, drop_at}
use Rattle.std.specs.Io.KnownBytes.{Appends}
use Rattle.vortex_filter.specs.Formula.{Formula}
use Rattle.zone_index.specs.Sinks.{written_of}
use Rattle.zone_index.specs.Zones.{IsHeld}
use Rattle.zone_index.specs.declared.search.Tally.{Tally}
use Rattle.zone_index.specs.declared.zones.Zone.{Zone}
use Rattle.record_rows.specs.declared.schema.Schema.{Schema}
use Rattle.record_search.specs.Answers.{AnswersFindRows}
use Rattle.record_search.specs.Searched.{IsRowIndex, matches_record, records_under}

pub all_found : (s : Schema) (f : Formula) (written_as : ℕ → List ℕ → List ℕ) (first start : ℕ) (zones : List Zone) (front bytes : List ℕ) (old new : Option (List ℕ)) (tally : Tally) → length front ≡ start → IsRowIndex s start zones (front ++ bytes)
    → AnswersFindRows s f written_as first zones (Some (front ++ bytes)) old new (Ok tally) → Appends old new (written_of written_as (matches_record s f) first (records_under s bytes))
all_found s f written_as first start zones front bytes old new tally long index answer =
    let held : IsHeld (Some (front ++ bytes)) (front ++ bytes) = record { bytes = front ++ bytes; is = refl; agree = refl } in
    subst (λ (l : List ℕ). Appends old new (written_of written_as (matches_record s f) first (records_under s l))) (drop_at front bytes start long) (answer.written (front ++ bytes) start held index)
