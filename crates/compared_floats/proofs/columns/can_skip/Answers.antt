-- By the law of floats that are compared.
use Rattle.std.proofs.Common.{◌≡◌, ◌∙◌, Bool, true, false, not, ap, refl}
use Rattle.compared_floats.proofs.columns.can_skip.Goals as goal

turned : (b : Bool) → not b ≡ true → b ≡ false
turned true h = absurd cc
turned false h = refl

pub returns : goal.returns
returns c = λ f columns statistics k row op literal bits number are same held there yes.
    c.floats_are_compared.ensures f columns k row op literal bits number
    (record { statistics = statistics; are = are; none = ap (λ o. o.may_be_true) same ∙ turned c.args.outcomes.may_be_true yes }) held there
