-- What was passed has a piece more, and what is to come gets one.
use Rattle.std.proofs.Common.{◌≡◌, ◌++◌, map, take, drop}
use Rattle.zone_index.specs.Encoding.{with_unread, zone_value, zone_values}
use Rattle.zone_index.proofs.blocks.add_unread.Given as goal

abbrev pub invariant-loop-zone : goal.invariant-loop-zone
invariant-loop-zone l = map zone_value (take l.zone-index l.zones) ++ with_unread (map zone_value (drop l.zone-index l.zones)) ≡ with_unread (zone_values l.initial.zones)
