-- What was read and what is still read are what all gives.
use Rattle.std.proofs.Common.{◌≡◌, ◌-◌, map}
use Rattle.zone_index.specs.Encoding.{block_value}
use Rattle.zone_index.specs.EncodingReading.{many_at, block_at}
use Rattle.zone_index.proofs.ReadSteps.{with_front}
use Rattle.zone_index.proofs.reading.blocks_in.Given as goal

abbrev pub invariant-loop : goal.invariant-loop
invariant-loop l = with_front (map block_value l.blocks.items) (many_at block_at (l.count - l.counter) l.rest) ≡ many_at block_at l.count l.bytes
