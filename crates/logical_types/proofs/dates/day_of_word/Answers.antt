use Rattle.std.proofs.Common.{◌≡◌, ◌∙◌, sym, arith, w32, to_z, of_z}
use Rattle.std.proofs.lemmas.Int.{ints}
use Rattle.jiff_fmt.specs.Text.{date_text}
use lib.Pointwise.{bytes_decides}
use mathlib.Core.Bool.{true≢false}
use Rattle.logical_types.proofs.DateWords.{none_read, other_text}
use Rattle.logical_types.proofs.dates.day_of_word.Goals as goal

pub returns-then-eq-clause-some : goal.returns-then-eq-clause-some
returns-then-eq-clause-some c =
    let e : to_z w32 (of_z w32 c.to_unix_epoch_day.result) ≡ c.to_unix_epoch_day.result = omega (arith, ints, c.to_unix_epoch_day.ensures.bound) in
    let same : c.as_bytes.result.now ≡ c.args.word.now = (bytes_decides _ _).0 (sym c.if-eq.ensures) in
    let text : c.as_bytes.result.now ≡ date_text c.in-Ok.date = c.as_bytes.ensures.value ∙ c.deref.ensures.0 ∙ c.date_text-text.ensures in
    record { date = c.in-Ok.date; counted = sym c.to_unix_epoch_day.ensures.value ∙ sym e; written = sym same ∙ text }

pub returns-else-eq-clause-none : goal.returns-else-eq-clause-none
returns-else-eq-clause-none c =
    let text : c.as_bytes.result.now ≡ date_text c.in-Ok.date = c.as_bytes.ensures.value ∙ c.deref.ensures.0 ∙ c.date_text-text.ensures in
    λ day w. other_text c.in-Ok.date c.args.word.now day c.in-Ok.ensures (λ h. true≢false (sym ((bytes_decides _ _).1 (text ∙ h)) ∙ sym c.if-eq.ensures)) w

pub returns-in-Err-clause-none : goal.returns-in-Err-clause-none
returns-in-Err-clause-none c = λ day w. none_read c.args.word.now c.in-Err.field-0 day c.in-Err.ensures w
