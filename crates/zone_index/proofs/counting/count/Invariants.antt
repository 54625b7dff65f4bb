-- As many as match in the zones so far.
use Rattle.std.proofs.Common.{◌≡◌, ◌≤◌, ℕ, List, None, take}
use Rattle.std.specs.List.{All}
use Rattle.zone_index.specs.Asking.{Asks}
use Rattle.zone_index.specs.Zones.{IsHeld, IsPartOfZone, IsZoneOf, is_undecided, refused_in, zone_records}
use Rattle.zone_index.proofs.Finding.{bytes_in, counted_in}
use Rattle.zone_index.proofs.counting.count.Given as goal

abbrev pub invariant-loop-zone : goal.invariant-loop-zone
invariant-loop-zone g l =
    (g.R.ReadAt.bytes l.reader ≡ g.R.ReadAt.bytes l.initial.reader)
    × ((was : List ℕ) → IsHeld (g.R.ReadAt.bytes l.initial.reader) was → All (IsZoneOf (g.M.Records.delimiter l.matcher) (g.M.Records.has_row l.matcher) (g.M.Records.Describes l.matcher) was) l.zones
    → l.total ≡ counted_in (g.M.Records.delimiter l.matcher) (g.M.Matcher.matches l.matcher) was (take l.zone-index l.zones))
    × Asks (IsPartOfZone (g.M.Matcher.decides l.matcher) l.zones) (g.R.ReadAt.asked l.initial.reader) (g.R.ReadAt.asked l.reader)
    × ((was : List ℕ) → All (IsZoneOf (g.M.Records.delimiter l.matcher) (g.M.Records.has_row l.matcher) (g.M.Records.Describes l.matcher) was) l.zones → l.total ≤ bytes_in (take l.zone-index l.zones))
    × ((was : List ℕ) → IsHeld (g.R.ReadAt.bytes l.initial.reader) was → All (IsZoneOf (g.M.Records.delimiter l.matcher) (g.M.Records.has_row l.matcher) (g.M.Records.Describes l.matcher) was) l.zones
    → refused_in (g.M.Records.is_refused l.matcher) (is_undecided (g.M.Matcher.decides l.matcher)) (zone_records (g.M.Records.delimiter l.matcher) was) (take l.zone-index l.zones) ≡ None)
