use Rattle.std.proofs.Common.{◌-◌, arith, drop}
use Rattle.arrow_columns.proofs.SpanSteps.{bytes_after, word_of_some}
use Rattle.arrow_columns.proofs.byte_spans.word_between.Goals as goal

pub returns : goal.returns
returns c =
    let rest = drop c.args.begin c.args.bytes.now in
    word_of_some (c.args.stop - c.args.begin) c.min.result rest c.word_at.result c.front_of.result (bytes_after c.args.begin c.args.bytes.now (λ k. omega (arith, c.type_inv.bytes k))) c.word_at.ensures (λ l. omega (arith, c.min.ensures)) (λ m. omega (arith, c.min.ensures)) c.front_of.ensures
