use Rattle.vortex_pvalue.specs.RangeLaws.{in_range_exactly}
use Rattle.vortex_pvalue.proofs.laws.test_is_range.Goals as goal

pub returns : goal.returns
returns c = in_range_exactly
