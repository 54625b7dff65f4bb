use Rattle.std.proofs.Common.{◌≡◌, ◌∙◌, ℕ, None, Some, Option, ℤ, pos, ap, subst, arith, w64, to_z, of_z}
use Rattle.std.proofs.lemmas.Int.{ints}
use Rattle.jiff_fmt.specs.Text.{time_text}
use Rattle.logical_types.specs.Clock.{IsTimeWord, time_written}
use Rattle.logical_types.specs.Printed.{IsTimeText}
use Rattle.logical_types.proofs.ClockWords.{time_reads}
use Rattle.logical_types.proofs.clock.word_of_time.Goals as goal

pub returns-in-Some-clause-word : goal.returns-in-Some-clause-word
returns-in-Some-clause-word c =
    let plain : c.new.result.precision ≡ None = ap (λ x. x.2) c.new.ensures in
    let text : c.time_text.result.bytes ≡ time_text None c.from_nanosecond-time.result = c.time_text.ensures ∙ ap (λ (p : Option ℕ). time_text p c.from_nanosecond-time.result) plain in
    let e : to_z w64 (of_z w64 c.args.time) ≡ c.args.time = omega (arith, ints, c.ranges.time) in
    let w : IsTimeWord c.args.unit c.time_text.result.bytes (to_z w64 (of_z w64 c.args.time)) = record {
      is = c.in-Some.ensures.some.0;
      moment = ap time_written text ∙ time_reads c.from_nanosecond-time.result ∙ ap Some (ap pos c.from_nanosecond-time.ensures ∙ c.in-Some.ensures.some.1);
    } in
    subst (λ (z : ℤ). IsTimeWord c.args.unit c.time_text.result.bytes z) e w

pub returns-in-Some-clause-text : goal.returns-in-Some-clause-text
returns-in-Some-clause-text c =
    let plain : c.new.result.precision ≡ None = ap (λ x. x.2) c.new.ensures in
    let text : c.time_text.result.bytes ≡ time_text None c.from_nanosecond-time.result = c.time_text.ensures ∙ ap (λ (p : Option ℕ). time_text p c.from_nanosecond-time.result) plain in
    let e : to_z w64 (of_z w64 c.args.time) ≡ c.args.time = omega (arith, ints, c.ranges.time) in
    let t : IsTimeText c.args.unit c.time_text.result.bytes (to_z w64 (of_z w64 c.args.time)) = record {
      time = c.from_nanosecond-time.result;
      counted = ap pos c.from_nanosecond-time.ensures ∙ c.in-Some.ensures.some.1;
      written = text;
    } in
    subst (λ (z : ℤ). IsTimeText c.args.unit c.time_text.result.bytes z) e t
