-- The statistics of the zones so far.
use Rattle.std.proofs.Common.{◌≡◌, take}
use Rattle.std.specs.List.{flat_map}
use Rattle.vortex_c.proofs.index_zones.statistics_of.Given as goal

abbrev pub invariant-loop-zone : goal.invariant-loop-zone
invariant-loop-zone l = l.bytes.items ≡ flat_map (λ z. z.statistics.items) (take l.zone-index l.zones)
