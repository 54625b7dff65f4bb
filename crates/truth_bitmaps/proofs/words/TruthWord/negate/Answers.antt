use Rattle.truth_bitmaps.proofs.TruthSteps.{not-word}
use Rattle.truth_bitmaps.proofs.words.TruthWord.negate.Goals as goal

pub returns : goal.returns
returns c = λ row below. not-word c.args.self.is_true c.args.self.is_unknown row below
