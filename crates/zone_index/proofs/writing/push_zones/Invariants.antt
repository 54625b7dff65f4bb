-- The zones so far were written.
use Rattle.std.proofs.Common.{◌≡◌, ◌++◌, take}
use Rattle.std.specs.List.{flat_map, AllByRecursion}
use Rattle.zone_index.specs.Encoding.{FitsZone, zone_encoding, zone_values}
use Rattle.zone_index.proofs.writing.push_zones.Given as goal

abbrev pub invariant-loop-zone : goal.invariant-loop-zone
invariant-loop-zone l = (l.output.items ≡ l.initial.output.items ++ flat_map zone_encoding (zone_values (take l.zone-index l.zones))) × AllByRecursion FitsZone (zone_values (take l.zone-index l.zones))
