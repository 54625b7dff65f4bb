use Rattle.std.proofs.Common.{arith, drop, length-drop, refl}
use Rattle.arrow_columns.proofs.SpanSteps.{bytes_after, words_same}
use Rattle.arrow_columns.proofs.byte_spans.is_word_alike.Goals as goal

pub returns : goal.returns
returns c =
    let one = c.args.one.now in
    let other = c.args.other.now in
    let at = c.args.at in
    words_same _ c.word_at.result c.word_at-2.result (drop at one) (drop at other) refl c.word_at.ensures c.word_at-2.ensures (bytes_after at one (λ k. omega (arith, c.type_inv.one k))) (bytes_after at other (λ k. omega (arith, c.type_inv.other k))) (omega (arith, length-drop at one)) (omega (arith, length-drop at other))
