use Rattle.std.proofs.Common.{◌≡◌, ◌∙◌, ap, sym, refl, arith, Some, ℤ, Bool, pos, ◌-ℤ◌, ◌*ℤ◌, w32, to_z, of_z}
use mir.Syntax.{w128}
use Rattle.std.proofs.lemmas.Int.{ints}
use Rattle.jiff_core.specs.DateTime.{civil_nanos}
use Rattle.jiff_core.specs.Timestamp.{nanos_of_seconds}
use Rattle.logical_types.specs.Times.{moment_written}
use Rattle.logical_types.proofs.TimestampWords.{with_offset, without_offset}
use Rattle.logical_types.proofs.times.moment_of_word.Goals as goal

pub returns-in-None-false : goal.returns-in-None-false
returns-in-None-false c =
    let e : to_z w128 (of_z w128 c.to_nanosecond-civil.result) ≡ c.to_nanosecond-civil.result = omega (arith, ints, c.to_nanosecond-civil.ensures.bound) in
    let read = without_offset c.args.word.now c.in-Ok.pieces c.in-Some-None.time (record { date = c.in-Ok.pieces.date; time = c.in-Some-None.time }) (sym c.has_separators.ensures ∙ c.if-not-has_separators.false) c.in-Ok.ensures c.in-Some-None.is-0 c.in-Some-None.is-1 c.in-None-false.is-0 refl refl in
    ap Some (e ∙ c.to_nanosecond-civil.ensures.value) ∙ sym read ∙ ap (λ (z : Bool). moment_written z c.args.word.now) (sym c.in-None-false.is-1)

pub returns-in-Some-true : goal.returns-in-Some-true
returns-in-Some-true c =
    let seconds = c.to_numeric_offset-seconds.result.seconds in
    let e : to_z w128 (of_z w128 (to_z w128 (of_z w128 c.to_nanosecond-civil.result) -ℤ to_z w128 (of_z w128 (to_z w128 (of_z w128 (to_z w32 (of_z w32 c.to_numeric_offset-seconds.result.seconds))) *ℤ pos 1000000000)))) ≡ c.to_nanosecond-civil.result -ℤ c.to_numeric_offset-seconds.result.seconds *ℤ pos 1000000000 = omega (arith, ints, c.to_nanosecond-civil.ensures.bound, c.to_numeric_offset-seconds.result.in_range) in
    let read = with_offset c.args.word.now c.in-Ok.pieces c.in-Some-None.time (record { date = c.in-Ok.pieces.date; time = c.in-Some-None.time }) c.in-Some-true.offset (sym c.has_separators.ensures ∙ c.if-not-has_separators.false) c.in-Ok.ensures c.in-Some-None.is-0 c.in-Some-None.is-1 c.in-Some-true.is-0 refl refl in
    ap Some (e ∙ ap (λ (x : ℤ). x -ℤ nanos_of_seconds seconds) c.to_nanosecond-civil.ensures.value ∙ ap (λ (x : ℤ). civil_nanos (record { date = c.in-Ok.pieces.date; time = c.in-Some-None.time }) -ℤ nanos_of_seconds x) c.to_numeric_offset-seconds.ensures)
    ∙ sym read ∙ ap (λ (z : Bool). moment_written z c.args.word.now) (sym c.in-Some-true.is-1)
