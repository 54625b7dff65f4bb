use Rattle.std.proofs.Common.{rules}
use Rattle.truth_bitmaps.proofs.ByteSteps.{byte-filled}
use Rattle.truth_bitmaps.proofs.masks.write_matches.Goals as goal

pub loop-place-preserved : goal.loop-place-preserved
loop-place-preserved c = byte-filled _ _ c.loop-place.mask c.loop-place.place c.byte_of.result c.loop-place.invariant (search rules) c.byte_of.ensures
