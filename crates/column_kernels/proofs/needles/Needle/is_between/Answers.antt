use Rattle.column_kernels.proofs.NeedleSteps.{between-told}
use Rattle.column_kernels.proofs.needles.Needle.is_between.Goals as goal

pub returns : goal.returns
returns c = between-told c.is_at.result c.args.bytes.now c.args.self.now.bytes.now c.args.begin c.args.stop c.requires.order c.requires.within c.is_at.ensures
