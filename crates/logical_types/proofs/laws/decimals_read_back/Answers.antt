use Rattle.std.proofs.Common.{arith, ◌^◌, ◌<◌, unsigned_abs}
use Rattle.logical_types.proofs.DecimalsBack.{limit_small, read_back}
use Rattle.logical_types.proofs.laws.decimals_read_back.Goals as goal

pub returns : goal.returns
returns c = λ h.
    let s = limit_small c.args.decimal.precision c.args.decimal.small in
    let w : unsigned_abs c.args.number < 10 ^ 64 = omega (arith, h, s) in
    read_back (10 ^ c.args.decimal.precision) c.args.decimal.scale c.args.number h w
