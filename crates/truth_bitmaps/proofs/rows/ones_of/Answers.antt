use Rattle.std.proofs.Common.{rules}
use Rattle.truth_bitmaps.proofs.RowSteps.{one-of}
use Rattle.truth_bitmaps.proofs.rows.ones_of.Goals as goal

pub returns : goal.returns
returns c = λ row below. let h = c.well_formed in one-of c.args.bytes row (search rules) below
