-- What is covered of the blocks so far.
use Rattle.zone_scans.specs.Ranges.{AreJoined}
use Rattle.zone_scans.proofs.BlockSteps.{AreCoveredSoFar, IsPlacedAt}
use Rattle.zone_scans.proofs.blocks.block_ranges.Given as goal

abbrev pub invariant-loop-column : goal.invariant-loop-column
invariant-loop-column l = record {
  covers : AreCoveredSoFar l.wanted l.blocks l.start l.place l.column l.ranges.items;
  joined : AreJoined l.ranges.items;
  placed : IsPlacedAt l.blocks l.start l.place l.column;
}
