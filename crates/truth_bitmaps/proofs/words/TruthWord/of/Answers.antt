use Rattle.std.proofs.Common.{◌∙◌, sym, ap, Some, rules}
use Rattle.truth_bitmaps.proofs.BitSteps.{set-ones, set-zero}
use Rattle.truth_bitmaps.proofs.TruthSteps.{by-bits}
use Rattle.truth_bitmaps.proofs.words.TruthWord.of.Goals as goal

pub returns-in-Some-true : goal.returns-in-Some-true
returns-in-Some-true c = λ row below. c.known.ensures row below ∙ ap Some (set-ones row below) ∙ search rules

pub returns-in-None : goal.returns-in-None
returns-in-None c = λ row below. by-bits _ _ _ _ (set-zero row) (set-ones row below) ∙ sym c.in-None.is
