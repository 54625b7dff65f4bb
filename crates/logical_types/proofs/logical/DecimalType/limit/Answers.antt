use Rattle.std.proofs.Common.{arith}
use Rattle.logical_types.proofs.DecimalsBack.{limit_small, limit_some}
use Rattle.logical_types.proofs.logical.DecimalType.limit.Goals as goal

pub pow-requires : goal.pow-requires
pow-requires c = let s = limit_small c.args.self.precision c.args.self.small in omega (arith, s)

pub returns-clause-some : goal.returns-clause-some
returns-clause-some c = let s = limit_some c.args.self.precision in omega (arith, s, c.pow.ensures)

pub returns-clause-small : goal.returns-clause-small
returns-clause-small c = let s = limit_small c.args.self.precision c.args.self.small in omega (arith, s, c.pow.ensures)
