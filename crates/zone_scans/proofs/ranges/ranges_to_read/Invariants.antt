-- What is covered of the zones so far.
use Rattle.std.proofs.Common.{◌≡◌, ℕ, List, take}
use Rattle.zone_scans.specs.Ranges.{AreJoined, bytes_of}
use Rattle.zone_scans.proofs.RangeSteps.{AreNearBefore, ranges_of}
use Rattle.zone_scans.proofs.ranges.ranges_to_read.Given as goal

abbrev pub invariant-loop-place : goal.invariant-loop-place
invariant-loop-place l = record {
  covers : (bytes : List ℕ) → bytes_of bytes l.ranges.items ≡ bytes_of bytes (ranges_of l.purpose (take l.place l.zones));
  joined : AreJoined l.ranges.items;
  near : AreNearBefore l.purpose l.zones l.place;
}
