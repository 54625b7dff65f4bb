-- The zones so far.
use Rattle.std.proofs.Common.{◌≡◌, map, take}
use Rattle.vortex_c.specs.IndexZones.{index_zone}
use Rattle.vortex_c.proofs.index_zones.zone_numbers.Given as goal

abbrev pub invariant-loop-zone : goal.invariant-loop-zone
invariant-loop-zone l = l.numbers.items ≡ map index_zone (take l.zone-index l.zones)
