-- The pieces of the zones so far.
use Rattle.std.proofs.Common.{map, take}
use Rattle.zone_index.specs.Encoding.{zone_values}
use Rattle.zone_index.proofs.WriteSteps.{AreBlocks}
use Rattle.zone_index.proofs.writing.blocks_of.Given as goal

abbrev pub invariant-loop-zone : goal.invariant-loop-zone
invariant-loop-zone l = AreBlocks l.columns (zone_values (take l.zone-index l.zones)) (map (λ b. b.items) l.blocks.items)
