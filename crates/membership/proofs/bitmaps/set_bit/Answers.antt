use Rattle.membership.proofs.Bits.{written}
use Rattle.membership.proofs.bitmaps.set_bit.Goals as goal

pub returns : goal.returns
returns c = written c.args.filter.now c.args.i
