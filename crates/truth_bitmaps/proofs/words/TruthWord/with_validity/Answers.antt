use Rattle.truth_bitmaps.proofs.TruthSteps.{null-word}
use Rattle.truth_bitmaps.proofs.words.TruthWord.with_validity.Goals as goal

pub returns : goal.returns
returns c = λ row below. null-word c.args.self.is_true c.args.self.is_unknown c.args.valid row below
