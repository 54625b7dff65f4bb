-- What was dealt and what is still dealt are what all gives.
use Rattle.zone_index.specs.Encoding.{with_statistics, zone_value}
use Rattle.zone_index.proofs.ReadSteps.{IsDealtSoFar}
use Rattle.zone_index.proofs.blocks.add_pieces.Given as goal

abbrev pub invariant-loop-zone : goal.invariant-loop-zone
invariant-loop-zone l = IsDealtSoFar zone_value with_statistics l.initial.zones l.bytes l.zone-index l.zones l.rest
