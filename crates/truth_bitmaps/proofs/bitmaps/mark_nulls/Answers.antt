use Rattle.std.proofs.Common.{◌∙◌, ◌+◌, ◌*◌, ◌≡◌, ap, arith, rules}
use Rattle.truth_bitmaps.specs.Truths.{bit_in}
use Rattle.truth_bitmaps.proofs.BlockSteps.{marked, step}
use Rattle.truth_bitmaps.proofs.bitmaps.mark_nulls.Goals as goal

pub loop-k-preserved : goal.loop-k-preserved
loop-k-preserved c =
    step _ _ c.loop-k.words c.loop-k.k c.with_validity.result c.loop-k.invariant (search rules)
    (marked c.with_validity.result _ _ c.word_from.result (λ row. bit_in c.args.validity.now (c.args.offset + (64 * c.loop-k.k + row))) (c.loop-k.invariant.rest c.loop-k.k (omega arith))
    (λ row small. let place : c.args.offset + 64 * c.loop-k.k + row ≡ c.args.offset + (64 * c.loop-k.k + row) = omega arith in c.word_from.ensures row small ∙ ap (bit_in c.args.validity.now) place)
    c.with_validity.ensures)
