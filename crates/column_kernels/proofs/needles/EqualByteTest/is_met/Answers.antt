use Rattle.std.proofs.Common.{slice_range}
use Rattle.column_kernels.proofs.NeedleSteps.{equal-told}
use Rattle.column_kernels.proofs.needles.EqualByteTest.is_met.Goals as goal

pub returns : goal.returns
returns c = equal-told c.is_between.result (slice_range c.args.bytes.now c.args.begin c.args.stop) c.args.self.now.needle.bytes.now c.is_between.ensures
