use Rattle.truth_bitmaps.proofs.TruthSteps.{and-word}
use Rattle.truth_bitmaps.proofs.words.TruthWord.and.Goals as goal

pub returns : goal.returns
returns c = λ row below. and-word c.args.self.is_true c.args.self.is_unknown c.args.other.is_true c.args.other.is_unknown row
