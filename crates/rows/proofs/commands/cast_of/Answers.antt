-- The cast that is asked for is that of the words.
use Rattle.std.proofs.Common.{rules, ◌≡◌, Some, ap, ◌∙◌, to_z, of_z}
use Rattle.rows.specs.Grammar.{cast_request, ptype_named}
use Rattle.rows.proofs.Operands.{three_words}
use Rattle.rows.proofs.commands.cast_of.Goals as goal

pub returns : goal.returns
returns c =
    let same : to_z mir.Syntax.w128 (of_z mir.Syntax.w128 c.in_ok-number.number) ≡ c.in_ok-number.number = search rules in
    c.cast_of_words.ensures
    ∙ ap (λ z. cast_request (Some c.in_ok-from.from) (Some z) (ptype_named c.in_ok-number.to.now)) same
    ∙ three_words _ _ _ _ _ c.in_ok-from.ensures.some c.in_ok-number.ensures.some
