-- What is found zone by zone is what is found in all records.
use Rattle.std.proofs.Common.{◌≡◌, ◌≤◌, ◌<◌, ◌+◌, ◌-◌, ◌^◌, min, ℕ, suc, List, [], ◌∷◌, ◌++◌, Bool, true, false, not, ◌==◌, refl, sym, ap, ap₂, ◌∙◌, subst, length, take, drop, arith, drop-drop}
use Rattle.std.proofs.lemmas.List.{drop_at, length-append, length-drop, length-take, take_at}
use Rattle.std.proofs.lemmas.List.Sums.{sum_by-append, sum_by-cons}
use Rattle.std.specs.List.{All, AllPass, concat, count_by, filter, flat_map, sum_by}
use Rattle.std.specs.Prelude.{if◌then◌else◌}
use Rattle.csv_records.specs.Lemmas.RecordLaws.{concat-records_of}
use Rattle.csv_records.specs.Records.{records_of}
use Rattle.zone_index.specs.Sinks.{told}
use Rattle.zone_index.specs.Zones.{Follow, IsZoneOf, is_skip, way_by, zone_bytes, zone_records}
use Rattle.zone_index.specs.declared.records.Decision.{Decision}
use Rattle.zone_index.specs.declared.records.Decision.TheVariants.{AllMatch, NoneMatch, Unknown}
use Rattle.zone_index.specs.declared.zones.Way.TheVariants as ways
use Rattle.zone_index.specs.declared.zones.Zone.{Zone}
use Rattle.zone_index.proofs.Answering.{none_match, rows_match}
use Rattle.zone_scans.specs.Found.{found_at, found_of}
use Rattle.zone_scans.specs.Laws.{AreSound, FoundRecordsAreKept, PlansCountAll, PlansFindAll, counted_by, counted_in_zone, found_in_zone, found_in_zones, record_bytes}
use Rattle.zone_scans.specs.Planning.{is_read, planned_at, planned_from}
use Rattle.zone_scans.specs.declared.finding.FoundRecord.{FoundRecord}
use Rattle.zone_scans.specs.declared.planning.PlannedZone.{PlannedZone}
use Rattle.zone_scans.specs.declared.planning.Purpose.TheVariants.{Find}
use Rattle.zone_scans.proofs.FindSteps.{found-append, found_told}

not_true : (b : Bool) → not b ≡ true → b ≡ false
not_true true h = cc
not_true false h = refl

-- where none matches, none is found
found_none : (matches : List ℕ → Bool) (place number : ℕ) (lines : List (List ℕ)) → AllPass (λ line. not (matches line)) lines → found_of matches place number lines ≡ []
found_none matches place number [] h = refl
found_none matches place number (line ∷ lines) h =
    let other : matches line ≡ false = not_true (matches line) (h 0 line (omega arith)) in
    rw other (found_none matches (place + length line) (number + 1) lines (λ k d below. h (suc k) d (omega arith)))

-- only what none matches in is skipped
all_read : (b : Bool) → is_skip (if b then ways.Copy else ways.Search) ≡ true → AllMatch ≡ NoneMatch
all_read true h = absurd cc
all_read false h = absurd cc

skipped_none : (d : Decision) (records rows : ℕ) → is_skip (way_by d records rows) ≡ true → d ≡ NoneMatch
skipped_none NoneMatch records rows h = refl
skipped_none AllMatch records rows h = all_read (records == rows) h
skipped_none Unknown records rows h = absurd cc

-- ---- zone by zone

filter_step : (f : PlannedZone → List FoundRecord) (q : PlannedZone → Bool) (z : PlannedZone) (zones : List PlannedZone) (b : Bool) → q z ≡ b → flat_map f (filter q (z ∷ zones)) ≡ (if b then f z else []) ++ flat_map f (filter q zones)
filter_step f q z zones true e = rw e refl
filter_step f q z zones false e = rw e refl

records_long : (d : ℕ) (has_row : List ℕ → Bool) (Describes : List ℕ → List (List ℕ) → Type 0) (bytes : List ℕ) (z : Zone) → IsZoneOf d has_row Describes bytes z → length (concat (zone_records d bytes z)) ≡ z.length
records_long d has_row Describes bytes z h =
    ap length (concat-records_of d (zone_bytes bytes z)) ∙ omega (arith, length-take z.length (drop z.first bytes), length-drop z.first bytes, h.inside)

zone_found : (d : ℕ) (has_row matches : List ℕ → Bool) (Describes : List ℕ → List (List ℕ) → Type 0) (decides : List ℕ → Decision) (bytes : List ℕ) (at number : ℕ) (z : Zone) (b : Bool) → AreSound decides Describes has_row matches → IsZoneOf d has_row Describes bytes z → z.first ≡ at
    → is_read Find (planned_at decides (told number) z) ≡ b → (if b then found_in_zone d matches bytes (planned_at decides (told number) z) else []) ≡ found_of matches at number (zone_records d bytes z)
zone_found d has_row matches Describes decides bytes at number z true sound own begins e =
    let twice : told (told number) ≡ told number = omega arith in
    found_told matches z.first at (told number) number (zone_records d bytes z) (ap told begins) twice
zone_found d has_row matches Describes decides bytes at number z false sound own begins e =
    let decided : decides z.statistics.items ≡ NoneMatch = skipped_none (decides z.statistics.items) z.records z.rows (skips (is_skip (way_by (decides z.statistics.items) z.records z.rows)) e) in
    sym (found_none matches at number (zone_records d bytes z) (sound.none z.statistics.items (zone_records d bytes z) decided own.described))
  where
    skips : (t : Bool) → not t ≡ false → t ≡ true
    skips true h = refl
    skips false h = absurd cc

zones_found : (d : ℕ) (has_row matches : List ℕ → Bool) (Describes : List ℕ → List (List ℕ) → Type 0) (decides : List ℕ → Decision) (bytes : List ℕ) (at end number : ℕ) (zones : List Zone) → AreSound decides Describes has_row matches → Follow at zones end → All (IsZoneOf d has_row Describes bytes) zones
    → found_in_zones d matches bytes (planned_from decides number zones) ≡ found_of matches at number (flat_map (zone_records d bytes) zones)
zones_found d has_row matches Describes decides bytes at end number [] sound follow right = refl
zones_found d has_row matches Describes decides bytes at end number (z ∷ zones) sound follow right =
    let own : IsZoneOf d has_row Describes bytes z = right 0 z (omega arith) in
    let records = zone_records d bytes z in
    let others = flat_map (zone_records d bytes) zones in
    let p = planned_at decides (told number) z in
    let later = planned_from decides (number + z.records) zones in
    let here : (if is_read Find p then found_in_zone d matches bytes p else []) ≡ found_of matches at number records = zone_found d has_row matches Describes decides bytes at number z (is_read Find p) sound own follow.0 refl in
    let behind : at + length (concat records) ≡ at + z.length = ap (λ (n : ℕ). at + n) (records_long d has_row Describes bytes z own) in
    let next : number + length records ≡ number + z.records = ap (λ (n : ℕ). number + n) (sym own.records) in
    filter_step (found_in_zone d matches bytes) (is_read Find) p later (is_read Find p) refl
    ∙ ap₂ (λ (a b : List FoundRecord). a ++ b) here (zones_found d has_row matches Describes decides bytes (at + z.length) end (number + z.records) zones sound follow.1 (λ k e below. right (suc k) e (omega (arith, below))))
    ∙ ap₂ (λ (a b : ℕ). found_of matches at number records ++ found_of matches a b others) (sym behind) (sym next)
    ∙ sym (found-append matches at number records others)

pub all_found : (d : ℕ) (has_row matches : List ℕ → Bool) (Describes : List ℕ → List (List ℕ) → Type 0) (decides : List ℕ → Decision) → PlansFindAll d has_row matches Describes decides
all_found d has_row matches Describes decides start first zones bytes sound index =
    zones_found d has_row matches Describes decides bytes start (length bytes) first zones sound index.follow index.right ∙ ap (found_of matches start first) (sym index.records)

-- ---- counting

zone_counted : (d : ℕ) (has_row matches : List ℕ → Bool) (Describes : List ℕ → List (List ℕ) → Type 0) (decides : List ℕ → Decision) (bytes : List ℕ) (z : Zone) (c : Decision) → AreSound decides Describes has_row matches → IsZoneOf d has_row Describes bytes z → decides z.statistics.items ≡ c
    → counted_by c z.rows (count_by matches (zone_records d bytes z)) ≡ count_by matches (zone_records d bytes z)
zone_counted d has_row matches Describes decides bytes z NoneMatch sound own e = none_match d matches bytes z (sound.none z.statistics.items (zone_records d bytes z) e own.described)
zone_counted d has_row matches Describes decides bytes z AllMatch sound own e = own.rows ∙ rows_match has_row matches (zone_records d bytes z) (sound.all z.statistics.items (zone_records d bytes z) e own.described)
zone_counted d has_row matches Describes decides bytes z Unknown sound own e = refl

zones_counted : (d : ℕ) (has_row matches : List ℕ → Bool) (Describes : List ℕ → List (List ℕ) → Type 0) (decides : List ℕ → Decision) (bytes : List ℕ) (number : ℕ) (zones : List Zone) → AreSound decides Describes has_row matches → All (IsZoneOf d has_row Describes bytes) zones
    → sum_by (counted_in_zone d matches bytes) (planned_from decides number zones) ≡ count_by matches (flat_map (zone_records d bytes) zones)
zones_counted d has_row matches Describes decides bytes number [] sound right = refl
zones_counted d has_row matches Describes decides bytes number (z ∷ zones) sound right =
    let own : IsZoneOf d has_row Describes bytes z = right 0 z (omega arith) in
    let records = zone_records d bytes z in
    sum_by-cons (counted_in_zone d matches bytes) (planned_at decides (told number) z) (planned_from decides (number + z.records) zones)
    ∙ ap₂ (λ (a b : ℕ). a + b) (zone_counted d has_row matches Describes decides bytes z (decides z.statistics.items) sound own refl) (zones_counted d has_row matches Describes decides bytes (number + z.records) zones sound (λ k e below. right (suc k) e (omega (arith, below))))
    ∙ sym (sum_by-append (λ (x : List ℕ). if matches x then 1 else 0) records (flat_map (zone_records d bytes) zones))

pub all_counted : (d : ℕ) (has_row matches : List ℕ → Bool) (Describes : List ℕ → List (List ℕ) → Type 0) (decides : List ℕ → Decision) → PlansCountAll d has_row matches Describes decides
all_counted d has_row matches Describes decides start first zones bytes sound index =
    zones_counted d has_row matches Describes decides bytes first zones sound index.right ∙ ap (count_by matches) (sym index.records)

-- ---- what stands there

record_kept : (bytes : List ℕ) (matches : List ℕ → Bool) (x : FoundRecord) (line : List ℕ) (found : List FoundRecord) (lines : List (List ℕ)) (b : Bool) → matches line ≡ b → record_bytes bytes x ≡ line → flat_map (record_bytes bytes) found ≡ concat (filter matches lines)
    → flat_map (record_bytes bytes) ((if matches line then x ∷ [] else []) ++ found) ≡ concat (filter matches (line ∷ lines))
record_kept bytes matches x line found lines true e here later = rw e (ap₂ (λ (a b : List ℕ). a ++ b) here later)
record_kept bytes matches x line found lines false e here later = rw e later

records_kept : (matches : List ℕ → Bool) (bytes : List ℕ) (place number : ℕ) (lines : List (List ℕ)) → place ≤ length bytes → length bytes < 2 ^ 64 → drop place bytes ≡ concat lines → flat_map (record_bytes bytes) (found_of matches place number lines) ≡ concat (filter matches lines)
records_kept matches bytes place number [] inside few is = refl
records_kept matches bytes place number (line ∷ lines) inside few is =
    let own : told place ≡ place = omega (arith, inside, few) in
    let here : take (length line) (drop (told place) bytes) ≡ line = ap (λ (n : ℕ). take (length line) (drop n bytes)) own ∙ ap (take (length line)) is ∙ take_at line (concat lines) (length line) refl in
    let next : drop (place + length line) bytes ≡ concat lines = sym (drop-drop (length line) place bytes) ∙ ap (drop (length line)) is ∙ drop_at line (concat lines) (length line) refl in
    let long : length (drop place bytes) ≡ length line + length (concat lines) = ap length is ∙ length-append line (concat lines) in
    let within : place + length line ≤ length bytes = omega (arith, long, length-drop place bytes, inside) in
    record_kept bytes matches (found_at (told place) (told number) line) line (found_of matches (place + length line) (number + 1) lines) lines (matches line) refl here (records_kept matches bytes (place + length line) (number + 1) lines within few next)

pub all_kept : FoundRecordsAreKept
all_kept d matches start first bytes inside few = records_kept matches bytes start first (records_of d (drop start bytes)) inside few (sym (concat-records_of d (drop start bytes)))
