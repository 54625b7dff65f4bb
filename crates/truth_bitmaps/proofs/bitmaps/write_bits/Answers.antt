use Rattle.std.proofs.Common.{◌∙◌, ◌+◌, ◌*◌, ◌≡◌, Some, ap, arith, if◌then◌else◌, rules}
use Rattle.truth_bitmaps.specs.Truths.{bit_in}
use Rattle.truth_bitmaps.proofs.BlockSteps.{step}
use Rattle.truth_bitmaps.proofs.bitmaps.write_bits.Goals as goal

pub loop-k-preserved : goal.loop-k-preserved
loop-k-preserved c =
    step _ _ c.loop-k.words c.loop-k.k c.known.result c.loop-k.invariant (search rules)
    (λ row small.
    let place : c.args.offset + 64 * c.loop-k.k + row ≡ c.args.offset + (64 * c.loop-k.k + row) = omega arith in
    c.known.ensures row small ∙ ap Some (c.chosen.ensures row small ∙ ap (λ b. if b then c.args.if_set else c.args.if_clear) (c.word_from-bits.ensures row small ∙ ap (bit_in c.args.bitmap.now) place)))
