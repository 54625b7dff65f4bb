-- What was read and what is still read are what all gives.
use Rattle.std.proofs.Common.{◌≡◌, ◌-◌}
use Rattle.zone_index.specs.Encoding.{zone_values}
use Rattle.zone_index.specs.EncodingReading.{many_at, zone_at}
use Rattle.zone_index.proofs.ReadSteps.{with_front}
use Rattle.zone_index.proofs.reading.zones_in.Given as goal

abbrev pub invariant-loop : goal.invariant-loop
invariant-loop l = with_front (zone_values l.zones.items) (many_at zone_at (l.count - l.counter) l.rest) ≡ many_at zone_at l.count l.bytes
