use Rattle.std.proofs.Common.{◌≡◌, ◌*◌, arith, drop, subst, take}
use Rattle.arrow_columns.proofs.SpanSteps.{on_true, word_more}
use Rattle.arrow_columns.proofs.byte_spans.begins_alike.Goals as goal

pub loop-k-preserved : goal.loop-k-preserved
loop-k-preserved c =
    let k = c.loop-k.k in
    word_more k c.args.value.now c.args.other.now c.loop-k.invariant (on_true c.is_word_alike.result (take 8 (drop (8 * k) c.args.value.now) ≡ take 8 (drop (8 * k) c.args.other.now)) c.is_word_alike.ensures c.if-not-is_word_alike.false)

pub returns-clause-alike : goal.returns-clause-alike
returns-clause-alike c =
    let past : c.loop-k.k ≡ c.args.words = omega arith in
    subst (λ k. take (8 * k) c.args.value.now ≡ take (8 * k) c.args.other.now) past c.loop-k.invariant
