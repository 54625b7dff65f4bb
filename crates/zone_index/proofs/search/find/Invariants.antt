-- What was found in the zones so far was written.
use Rattle.std.proofs.Common.{◌≡◌, ◌≤◌, ◌+◌, ◌-◌, ◌^◌, ℕ, List, None, min, take}
use Rattle.std.specs.List.{All, count_by}
use Rattle.std.specs.Io.KnownBytes.{Appends}
use Rattle.zone_index.specs.Asking.{Asks}
use Rattle.zone_index.specs.Sinks.{told, written_in}
use Rattle.zone_index.specs.Zones.{IsHeld, IsOfZone, IsZoneOf, is_copied, is_searched, is_skipped, refused_in, zone_records}
use Rattle.zone_index.proofs.Finding.{counted_in}
use Rattle.zone_index.proofs.Sinking.{records_in}
use Rattle.zone_index.proofs.search.find.Given as goal

abbrev pub invariant-loop-zone : goal.invariant-loop-zone
invariant-loop-zone g l = record {
  same : g.R.ReadAt.bytes l.reader ≡ g.R.ReadAt.bytes l.initial.reader;
  written : (was : List ℕ) → IsHeld (g.R.ReadAt.bytes l.initial.reader) was → All (IsZoneOf (g.M.Records.delimiter l.matcher) (g.M.Records.has_row l.matcher) (g.M.Records.Describes l.matcher) was) l.zones
      → Appends (g.S.Sink.contents l.initial.sink) (g.S.Sink.contents l.sink) (written_in g.S.Sink.written_as (g.M.Matcher.matches l.matcher) l.first (g.M.Records.delimiter l.matcher) was (take l.zone-index l.zones));
  number : told l.number ≡ told (l.first + records_in (take l.zone-index l.zones));
  skipped : l.tally.skipped ≡ count_by (is_skipped (g.M.Matcher.decides l.matcher)) (take l.zone-index l.zones);
  copied : l.tally.copied ≡ count_by (is_copied (g.M.Matcher.decides l.matcher)) (take l.zone-index l.zones);
  searched : l.tally.searched ≡ count_by (is_searched (g.M.Matcher.decides l.matcher)) (take l.zone-index l.zones);
  few : l.tally.skipped + l.tally.copied + l.tally.searched ≤ l.zone-index;
  asks : Asks (IsOfZone (g.M.Matcher.decides l.matcher) l.zones) (g.R.ReadAt.asked l.initial.reader) (g.R.ReadAt.asked l.reader);
  sifted : (was : List ℕ) → IsHeld (g.R.ReadAt.bytes l.initial.reader) was → All (IsZoneOf (g.M.Records.delimiter l.matcher) (g.M.Records.has_row l.matcher) (g.M.Records.Describes l.matcher) was) l.zones
      → refused_in (g.M.Records.is_refused l.matcher) (is_searched (g.M.Matcher.decides l.matcher)) (zone_records (g.M.Records.delimiter l.matcher) was) (take l.zone-index l.zones) ≡ None;
  found : (was : List ℕ) → IsHeld (g.R.ReadAt.bytes l.initial.reader) was → All (IsZoneOf (g.M.Records.delimiter l.matcher) (g.M.Records.has_row l.matcher) (g.M.Records.Describes l.matcher) was) l.zones
      → l.tally.found ≡ min (counted_in (g.M.Records.delimiter l.matcher) (g.M.Matcher.matches l.matcher) was (take l.zone-index l.zones)) (2 ^ 64 - 1);
}
