use Rattle.truth_bitmaps.proofs.TruthSteps.{or-word}
use Rattle.truth_bitmaps.proofs.words.TruthWord.or.Goals as goal

pub returns : goal.returns
returns c = λ row below. or-word c.args.self.is_true c.args.self.is_unknown c.args.other.is_true c.args.other.is_unknown row
