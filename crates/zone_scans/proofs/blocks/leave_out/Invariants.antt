-- The blocks so far, and those that follow.
use Rattle.std.proofs.Common.{◌≡◌, length}
use Rattle.zone_scans.proofs.BlockSteps.{AreLeftOutSoFar}
use Rattle.zone_scans.proofs.blocks.leave_out.Given as goal

abbrev pub invariant-loop-column : goal.invariant-loop-column
invariant-loop-column l = record {
  out : AreLeftOutSoFar l.wanted l.initial.blocks l.blocks l.column;
  long : length l.blocks ≡ length l.initial.blocks;
}
