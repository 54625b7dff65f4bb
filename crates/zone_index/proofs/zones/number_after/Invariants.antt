-- The number after the zones so far.
use Rattle.std.proofs.Common.{◌≡◌, ◌+◌, take}
use Rattle.zone_index.specs.Sinks.{told}
use Rattle.zone_index.proofs.Sinking.{records_in}
use Rattle.zone_index.proofs.zones.number_after.Given as goal

abbrev pub invariant-loop-zone : goal.invariant-loop-zone
invariant-loop-zone l = l.number ≡ told (l.first + records_in (take l.zone-index l.zones))
