use Rattle.std.proofs.Common.{◌≡◌, ◌*◌, drop, take}
use Rattle.arrow_columns.proofs.SpanSteps.{on_true, word_more}
use Rattle.arrow_columns.proofs.byte_spans.words_alike.Goals as goal

pub loop-k-preserved : goal.loop-k-preserved
loop-k-preserved c =
    let k = c.loop-k.k in
    word_more k c.args.one.now c.args.other.now c.loop-k.invariant (on_true c.is_word_alike.result (take 8 (drop (8 * k) c.args.one.now) ≡ take 8 (drop (8 * k) c.args.other.now)) c.is_word_alike.ensures c.if-not-is_word_alike.false)
