use Rattle.std.proofs.Common.{◌-◌, arith}
use Rattle.logical_types.proofs.DecimalsBack.{limit_small, limit_some}
use Rattle.logical_types.proofs.decimals.places.unit_between.Goals as goal

pub pow-requires : goal.pow-requires
pow-requires c = let s = limit_small (c.args.fine - c.args.scale) (let h = c.requires.small in omega arith) in omega (arith, s)

pub returns-clause-some : goal.returns-clause-some
returns-clause-some c = let s = limit_some (c.args.fine - c.args.scale) in omega (arith, s, c.pow.ensures)
