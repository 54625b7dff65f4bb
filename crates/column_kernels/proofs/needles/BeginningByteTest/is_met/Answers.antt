use Rattle.column_kernels.proofs.NeedleSteps.{begins-told}
use Rattle.column_kernels.proofs.needles.BeginningByteTest.is_met.Goals as goal

pub returns : goal.returns
returns c = begins-told c.is_at.result c.args.bytes.now c.args.self.now.needle.bytes.now c.args.begin c.args.stop c.requires.within c.is_at.ensures
