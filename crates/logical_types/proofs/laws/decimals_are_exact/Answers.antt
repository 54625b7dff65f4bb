use Rattle.std.proofs.Common.{◌^◌}
use Rattle.logical_types.proofs.DecimalsExact.{exact}
use Rattle.logical_types.proofs.laws.decimals_are_exact.Goals as goal

pub returns : goal.returns
returns c = exact (10 ^ c.args.decimal.precision) c.args.decimal.scale
