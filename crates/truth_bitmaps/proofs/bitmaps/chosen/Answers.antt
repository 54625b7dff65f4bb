use Rattle.std.proofs.Common.{◌∙◌, true, ap, if◌then◌else◌, sym}
use Rattle.truth_bitmaps.specs.Truths.{is_set}
use Rattle.truth_bitmaps.proofs.BitSteps.{choose-flip, choose-ones}
use Rattle.truth_bitmaps.proofs.bitmaps.chosen.Goals as goal

pub returns-in-true-true : goal.returns-in-true-true
returns-in-true-true c = λ row small.
    choose-ones c.args.bits row small
    ∙ ap (λ b. if is_set c.args.bits row then b else b) (sym c.in-true-true.is-0)
    ∙ ap (λ b. if is_set c.args.bits row then c.args.if_set else b) (c.in-true-true.is-0 ∙ sym c.in-true-true.is-1)

pub returns-in-false-true : goal.returns-in-false-true
returns-in-false-true c = λ row small.
    choose-flip c.args.bits row small
    ∙ ap (λ b. if is_set c.args.bits row then b else true) (sym c.in-false-true.is-0)
    ∙ ap (λ b. if is_set c.args.bits row then c.args.if_set else b) (sym c.in-false-true.is-1)
