use Rattle.std.proofs.Common.{◌≡◌, ◌∙◌, ◌++◌, ap, sym, arith, List, ℕ, length, codes, false, nat_lt}
use Rattle.std.proofs.lemmas.Bool.Decides.{nat_tests}
use Rattle.logical_types.specs.Clock.{time_written}
use Rattle.logical_types.specs.Times.{moment_written}
use Rattle.logical_types.proofs.ClockWords.{on_ok}
use Rattle.logical_types.proofs.clock.moment_of_time.Goals as goal

pub returns : goal.returns
returns c =
    let empty : length c.new-text.result.items ≡ 0 = ap length c.new-text.ensures in
    let first = on_ok _ _ (c.try_extend_from_slice.ensures.variant.1 (omega arith)) c.try_extend_from_slice.ensures.ok in
    let long = on_ok _ _ (c.try_extend_from_slice.ensures.variant.1 (omega arith)) c.try_extend_from_slice.ensures.len in
    let second = on_ok _ _ (c.try_extend_from_slice-2.ensures.variant.1 (omega (arith, long, c.if-word-gt18.false))) c.try_extend_from_slice-2.ensures.ok in
    let text : c.as_slice.result.now ≡ codes "1970-01-01T" ++ c.args.word.now = c.as_slice.ensures.value ∙ second ∙ ap (λ (x : List ℕ). x ++ c.args.word.now) (first ∙ ap (λ (x : List ℕ). x ++ codes "1970-01-01T") c.new-text.ensures) in
    let short : nat_lt 18 (length c.args.word.now) ≡ false = grind (arith, nat_tests, c.if-word-gt18.false) in
    let e : time_written c.args.word.now ≡ moment_written false (codes "1970-01-01T" ++ c.args.word.now) = rw short in
    c.moment_of_word.ensures ∙ ap (moment_written false) text ∙ sym e
