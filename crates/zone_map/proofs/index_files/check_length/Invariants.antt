-- What is left behind the blocks so far.
use Rattle.std.proofs.Common.{◌≤◌, ◌-◌}
use Rattle.zone_scans.proofs.BlockSteps.{IsPlacedAt}
use Rattle.zone_map.proofs.index_files.check_length.Given as goal

abbrev pub invariant-loop-block : goal.invariant-loop-block
invariant-loop-block l = (l.left ≤ l.length) × IsPlacedAt l.blocks 0 (l.length - l.left) l.block-index
