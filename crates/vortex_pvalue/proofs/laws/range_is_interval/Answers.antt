use Rattle.vortex_pvalue.proofs.Ranges.{range_is_interval}
use Rattle.vortex_pvalue.proofs.laws.range_is_interval.Goals as goal

pub returns : goal.returns
returns c = range_is_interval
