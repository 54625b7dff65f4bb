use Rattle.truth_bitmaps.proofs.ByteSteps.{low-rest, low-set}
use Rattle.truth_bitmaps.proofs.masks.low_bits.Goals as goal

pub returns-clause-below : goal.returns-clause-below
returns-clause-below c = λ bit below. low-set c.args.byte c.args.end bit c.requires below

pub returns-clause-rest : goal.returns-clause-rest
returns-clause-rest c = λ bit above. low-rest c.args.byte c.args.end bit c.requires above
