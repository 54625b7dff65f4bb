use Rattle.std.proofs.Common.{◌≡◌, eq-eqb, rules}
use Rattle.std.specs.Int.Bits.{bit_or}
use Rattle.truth_bitmaps.proofs.TruthSteps.{is-false, none-true}
use Rattle.truth_bitmaps.proofs.words.TruthWord.is_false_of_all.Goals as goal

pub returns : goal.returns
returns c = (
  λ h row small. let none : bit_or c.args.self.is_true c.args.self.is_unknown ≡ 0 = search rules in none-true _ _ row none,
  λ all. eq-eqb _ 0 (is-false _ _ (search rules) (search rules) all),
)
