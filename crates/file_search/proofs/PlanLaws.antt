-- A plan finds what a search finds.
use Rattle.std.proofs.Common.{◌≡◌, ◌≤◌, ◌+◌, ◌++◌, ℕ, List, [], ◌∷◌, Option, Some, Ok, refl, sym, ap, ◌∙◌, subst, arith, drop, length}
use Rattle.std.specs.Io.KnownBytes.{Appends}
use Rattle.std.specs.List.{flat_map}
use Rattle.record_rows.specs.declared.schema.Schema.{Schema}
use Rattle.record_search.specs.Answers.{AnswersFindRows}
use Rattle.record_search.specs.Laws.{DecisionsAreRight}
use Rattle.record_search.specs.Searched.{DescribeRows, IsRowIndex, decision_of, has_row, matches_record, records_under}
use Rattle.vortex_filter.specs.Formula.{Formula}
use Rattle.zone_index.specs.Records.{kept_of}
use Rattle.zone_index.specs.Sinks.{plain_record}
use Rattle.zone_index.specs.Zones.{Follow, IsHeld}
use Rattle.zone_index.specs.declared.zones.Zone.{Zone}
use Rattle.zone_scans.proofs.LawSteps.{all_counted, all_found, all_kept}
use Rattle.zone_scans.specs.Found.{found_of}
use Rattle.zone_scans.specs.Laws.{AreSound, found_in_zones, record_bytes}
use Rattle.file_search.specs.Laws.{FindsRows, PlansFindRows}
use Rattle.file_search.specs.Sought.{planned_rows}

-- what statistics decide of a formula is so
sound : (law : DecisionsAreRight) (s : Schema) (f : Formula) → AreSound (decision_of s.columns.items f) (DescribeRows s) (has_row s) (matches_record s f)
sound law s f = record {
  none = λ bytes records e described. law.none s f bytes records e described;
  all = λ bytes records e described. law.all s f bytes records e described;
}

follow_inside : (at end : ℕ) (zones : List Zone) → Follow at zones end → at ≤ end
follow_inside at end [] h = omega (arith, h)
follow_inside at end (z ∷ zones) h = omega (arith, follow_inside (at + z.length) end zones h.1)

held : (bytes : List ℕ) → IsHeld (Some bytes) bytes
held bytes = record { bytes = bytes; is = refl; agree = refl }

pub plans_find : DecisionsAreRight → PlansFindRows
plans_find law s f start zones bytes index =
    let found : found_in_zones s.delimiter.byte (matches_record s f) bytes (planned_rows s f zones) ≡ found_of (matches_record s f) start 0 (records_under s (drop start bytes)) =
    all_found s.delimiter.byte (has_row s) (matches_record s f) (DescribeRows s) (decision_of s.columns.items f) start 0 zones bytes (sound law s f) index in
    record {
      found = found;
      count = all_counted s.delimiter.byte (has_row s) (matches_record s f) (DescribeRows s) (decision_of s.columns.items f) start 0 zones bytes (sound law s f) index;
      written = λ first old new tally few answers.
          let kept : flat_map (record_bytes bytes) (found_of (matches_record s f) start 0 (records_under s (drop start bytes))) ≡ kept_of s.delimiter.byte (matches_record s f) (drop start bytes) =
          all_kept s.delimiter.byte (matches_record s f) start 0 bytes (follow_inside start (length bytes) zones index.follow) few in
          subst (λ (l : List ℕ). Appends old new l) (sym (ap (flat_map (record_bytes bytes)) found ∙ kept)) (answers.plain (λ number line. refl) bytes start (held bytes) index);
    }
