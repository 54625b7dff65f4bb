use Rattle.std.proofs.Common.{◌∙◌, arith}
use Rattle.vortex_c.proofs.Truncations.{no_text_upper_made, taken, text_upper_made}
use Rattle.vortex_c.proofs.bounds.upper_of_text.Goals as goal

pub returns-in-Some-clause-given : goal.returns-in-Some-clause-given
returns-in-Some-clause-given c =
    let f = c.floor_char_boundary-end.ensures in
    text_upper_made c.args.text.now c.in_ok-beginning.beginning c.args.max_length c.floor_char_boundary-end.result c.in-Some.bound _
    (omega (arith, c.if-text-max_length.false)) (c.in_ok-beginning.ensures.given ∙ c.range.ensures.value ∙ taken c.floor_char_boundary-end.result c.args.text.now) f.bound f.boundary f.nearest
    (rw c.in-Some.is at c.in_ok-bound.ensures.given) c.into_inner.ensures.content

pub returns-in-None-clause-given : goal.returns-in-None-clause-given
returns-in-None-clause-given c =
    let f = c.floor_char_boundary-end.ensures in
    no_text_upper_made c.args.text.now c.in_ok-beginning.beginning c.args.max_length c.floor_char_boundary-end.result
    (omega (arith, c.if-text-max_length.false)) (c.in_ok-beginning.ensures.given ∙ c.range.ensures.value ∙ taken c.floor_char_boundary-end.result c.args.text.now) f.bound f.boundary f.nearest
    (rw c.in-None.is at c.in_ok-bound.ensures.given)
