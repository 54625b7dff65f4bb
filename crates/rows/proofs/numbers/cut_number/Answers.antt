-- The number after a minus sign.
use Rattle.std.proofs.Common.{rules, ◌≡◌, ℤ, pos, neg_ℤ, subst, to_z, of_z, ◌-ℤ◌}
use Rattle.rows.specs.Fronts.{FirstSays}
use Rattle.rows.specs.Grammar.{number_named}
use Rattle.rows.proofs.Numerals.{after_minus_says}
use Rattle.rows.proofs.numbers.cut_number.Goals as goal

pub returns-then-text-eq45-clause-some : goal.returns-then-text-eq45-clause-some
returns-then-text-eq45-clause-some c =
    let small = c.in_ok-size.ensures.small in
    let value : neg_ℤ (pos c.in_ok-size.size) ≡ to_z mir.Syntax.w128 (of_z mir.Syntax.w128 (pos 0 -ℤ to_z mir.Syntax.w128 c.in_ok-size.size)) = search rules in
    let says = after_minus_says _ _ _ (search rules) c.if-text-eq45.true c.in_ok-size.ensures.some in
    subst (λ (z : ℤ). FirstSays number_named c.args.text.now z c.in_ok-size.rest.now) value says
