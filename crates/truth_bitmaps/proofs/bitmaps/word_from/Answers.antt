use Rattle.std.proofs.Common.{rules}
use Rattle.truth_bitmaps.proofs.ByteSteps.{two-parts}
use Rattle.truth_bitmaps.proofs.bitmaps.word_from.Goals as goal

pub returns : goal.returns
returns c = two-parts c.args.bitmap.now c.args.from c.eight_bytes-low.result c.from.result (search rules) (search rules) c.eight_bytes-low.ensures (search rules)
