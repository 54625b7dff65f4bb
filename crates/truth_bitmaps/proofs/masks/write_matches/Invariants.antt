use Rattle.truth_bitmaps.proofs.ByteSteps.{Filled}
use Rattle.truth_bitmaps.proofs.masks.write_matches.Given as goal

abbrev pub invariant-loop-place : goal.invariant-loop-place
invariant-loop-place l = Filled l.words l.fn.mask l.mask l.place
