-- The day that was read, in nanoseconds.
use Rattle.std.proofs.Common.{◌≡◌, ◌∙◌, ◌*ℤ◌, ap, arith, of_z, pos, Some, sym, to_z, w32, ℤ}
use Rattle.std.specs.Option.{option_map}
use mir.Syntax.{w128}
use Rattle.std.proofs.lemmas.Int.{ints}
use Rattle.jiff_core.proofs.SignedLemmas.{signed_arith}
use Rattle.logical_types.specs.Times.{day_nanoseconds}
use Rattle.logical_types.proofs.ShapesSay.{day_none, day_to}
use Rattle.logical_types.proofs.times.midnight_of_word.Goals as goal

pub returns-in-Some : goal.returns-in-Some
returns-in-Some c =
    let day = c.in-Some.day in
    let e : to_z w128 (of_z w128 (to_z w128 (of_z w128 (to_z w32 (of_z w32 day))) *ℤ pos 86400000000000)) ≡ day *ℤ pos day_nanoseconds = omega (arith, ints, signed_arith, c.in-Some.ensures.valid.0, c.in-Some.ensures.valid.1) in
    ap Some e ∙ sym (ap (option_map (λ (d : ℤ). d *ℤ pos day_nanoseconds)) (day_to c.args.word.now day c.in-Some.ensures.some))

pub returns-in-None : goal.returns-in-None
returns-in-None c = sym (ap (option_map (λ (d : ℤ). d *ℤ pos day_nanoseconds)) (day_none c.args.word.now c.in-None.ensures.none))
