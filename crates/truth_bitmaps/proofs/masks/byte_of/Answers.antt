use Rattle.truth_bitmaps.proofs.ByteSteps.{byte-set}
use Rattle.truth_bitmaps.proofs.masks.byte_of.Goals as goal

pub returns : goal.returns
returns c = λ bit small. byte-set c.args.word c.args.place bit small
