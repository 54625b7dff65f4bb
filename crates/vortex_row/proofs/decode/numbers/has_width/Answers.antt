-- Too many bytes, or too many for the limit.
use Rattle.std.proofs.Common.{◌≡◌, ◌/◌, ◌^◌, ◌*◌, ◌-◌, inl, inr, arith}
use Rattle.std.proofs.lemmas.Bool.Decides.{nat_tests}
use Rattle.vortex_row.proofs.NumberSteps.{width-none}
use Rattle.vortex_row.proofs.decode.numbers.has_width.Goals as goal

pub returns-else-width-eq0-clause-none : goal.returns-else-width-eq0-clause-none
returns-else-width-eq0-clause-none c = λ e.
    let some = c.if-width-eq0.false in
    let none : c.args.limit / 2 ^ (8 * (c.args.width - 1)) ≡ 0 = grind (arith, nat_tests) in
    width-none c.args.width c.args.limit c.ranges.limit.fits (inr (omega arith, none))

pub returns-else-width-le8-clause-none : goal.returns-else-width-le8-clause-none
returns-else-width-le8-clause-none c = λ e. width-none c.args.width c.args.limit c.ranges.limit.fits (inl c.if-width-le8.false)
