-- The word at hand is the one, or the one is behind it.
use Rattle.std.proofs.Common.{◌∙◌, List, ap, arith, ℕ}
use Rattle.std.specs.Str.{bytes_eq}
use Rattle.record_rows.proofs.NullWords.{found_later, found_there}
use Rattle.record_rows.proofs.schema.stands_in.Goals as goal

pub returns-then-eq : goal.returns-then-eq
returns-then-eq c =
    found_there c.args.words.now c.loop-one.one-index c.one-item.result c.args.word.now c.eq.result _ (omega arith) c.one-item.is
    (c.eq.ensures ∙ ap (λ (text : List ℕ). bytes_eq text c.args.word.now) c.as_slice.ensures.value) c.if-eq.true c.loop-one.invariant

pub loop-one-preserved : goal.loop-one-preserved
loop-one-preserved c =
    found_later c.args.words.now c.loop-one.one-index c.one-item.result c.args.word.now c.eq.result _ (omega arith) c.one-item.is
    (c.eq.ensures ∙ ap (λ (text : List ℕ). bytes_eq text c.args.word.now) c.as_slice.ensures.value) c.if-eq.false c.loop-one.invariant
