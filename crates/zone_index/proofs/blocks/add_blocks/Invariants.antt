-- What is still added gives what all does.
use Rattle.zone_index.specs.Encoding.{zone_values}
use Rattle.zone_index.proofs.ReadSteps.{AreAddedSoFar}
use Rattle.zone_index.proofs.blocks.add_blocks.Given as goal

abbrev pub invariant-loop-place : goal.invariant-loop-place
invariant-loop-place l = AreAddedSoFar l.wanted l.blocks (zone_values l.initial.zones) l.bytes l.place (zone_values l.zones) l.rest
