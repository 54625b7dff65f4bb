use Rattle.std.proofs.Common.{slice_range}
use Rattle.column_kernels.proofs.NeedleSteps.{unequal-told}
use Rattle.column_kernels.proofs.needles.UnequalByteTest.is_met.Goals as goal

pub returns : goal.returns
returns c = unequal-told c.is_between.result (slice_range c.args.bytes.now c.args.begin c.args.stop) c.args.self.now.needle.bytes.now c.is_between.ensures
