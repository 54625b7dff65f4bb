use Rattle.std.proofs.Common.{◌≡◌, ◌-◌, ◌^◌, eq-eqb, rules}
use Rattle.truth_bitmaps.proofs.TruthSteps.{all-true, is-true}
use Rattle.truth_bitmaps.proofs.words.TruthWord.is_true_of_all.Goals as goal

pub returns : goal.returns
returns c = (
  λ h row small. let ones : c.args.self.is_true ≡ 2 ^ 64 - 1 = search rules in all-true _ c.args.self.is_unknown row small ones,
  λ all. eq-eqb _ (2 ^ 64 - 1) (is-true _ c.args.self.is_unknown (search rules) all),
)
