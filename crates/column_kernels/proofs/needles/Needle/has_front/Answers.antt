use Rattle.std.proofs.Common.{refl}
use Rattle.std.proofs.lemmas.Nat.{and_le_l}
use Rattle.column_kernels.proofs.NeedleSteps.{front-told}
use Rattle.column_kernels.proofs.needles.Needle.has_front.Goals as goal

pub returns : goal.returns
returns c = λ xs bytes front. front-told c.args.self.now c.args.word _ xs refl (and_le_l c.args.word c.args.self.now.rest) bytes front _ refl
