-- The zones so far are told.
use Rattle.std.proofs.Common.{◌≡◌, drop, length, map, take}
use Rattle.vortex_c.specs.Searches.{zone_parts}
use Rattle.vortex_c.proofs.searches.put_zones.Given as goal

abbrev pub invariant-loop-place : goal.invariant-loop-place
invariant-loop-place l = record {
  put : take l.place l.zones ≡ map zone_parts (take l.place l.planned);
  rest : drop (length l.planned) l.zones ≡ drop (length l.planned) l.initial.zones;
  long : length l.zones ≡ length l.initial.zones;
}
