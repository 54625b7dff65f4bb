use Rattle.std.proofs.Common.{arith, subst, sym, length, ◌∙◌}
use Rattle.std.proofs.lemmas.Grind.{common_steps}
use Rattle.std.specs.Char.{IsScalar}
use Rattle.std.specs.String.Boundary.{IsSplitPoint}
use Rattle.vortex_bounds.specs.Texts.{EndsWith}
use Rattle.vortex_bounds.proofs.TextBounds.{ends_split, next_is_free, successor_after_cut}
use Rattle.vortex_bounds.proofs.string_like.StringStringLike.increment.Goals as goal

pub returns-then-is_err : goal.returns-then-is_err
returns-then-is_err c =
    let d = c.in-Some-next_char.ensures in
    let h = subst (λ p. EndsWith p c.in-Some.front.now c.in-Some.last) c.as_str.ensures.value c.in-Some.ensures in
    (c.reserve.ensures.bytes, next_is_free _ _ _ h (subst IsScalar d.0 d.1))

pub truncate-requires : goal.truncate-requires
truncate-requires c = λ _.
    subst (λ p. IsSplitPoint p (length c.in-Some.front.now)) (c.as_str.ensures.value ∙ sym c.reserve.ensures.bytes)
    (ends_split _ _ _ c.in-Some.ensures)

pub returns : goal.returns
returns c =
    let d = c.in-Some-next_char.ensures in
    let h = subst (λ p. EndsWith p c.in-Some.front.now c.in-Some.last) c.as_str.ensures.value c.in-Some.ensures in
    (successor_after_cut _ _ _ _ _ h d.0 d.1 (grind (arith, common_steps)), next_is_free _ _ _ h (subst IsScalar d.0 d.1))
