-- The zones so far, and what is left for the others.
use Rattle.std.proofs.Common.{◌≡◌, ◌++◌, drop, length, sum_by}
use Rattle.zone_index.specs.Encoding.{zone_values}
use Rattle.vortex_c.specs.IndexZones.{zones_cut}
use Rattle.vortex_c.proofs.index_zones.zones_with.Given as goal

abbrev pub invariant-loop-zone : goal.invariant-loop-zone
invariant-loop-zone l = record {
  made : zone_values l.made.items ++ zones_cut (drop l.zone-index l.zones) l.rest ≡ zones_cut l.zones l.statistics;
  long : sum_by (λ z. z.statistics) (drop l.zone-index l.zones) ≡ length l.rest;
}
