-- The scalars of the two numbers.
use Rattle.std.proofs.Common.{◌∙◌, FitsSigned, ap, rules, subst, sym}
use Rattle.std.proofs.lemmas.Int.{to_z-of_z}
use Rattle.std.specs.Int.{w128}
use Rattle.arrow_columns.specs.Formats.{IsValueOf}
use Rattle.column_cells.specs.Contents.{stored_content}
use Rattle.column_statistics.proofs.extremes.value_extremes.Goals as goal

pub value_scalar-requires-clause-value : goal.value_scalar-requires-clause-value
value_scalar-requires-clause-value c =
    let f : FitsSigned w128 c.args.numbers.least = search rules in
    subst (IsValueOf c.args.format) (sym (to_z-of_z w128 c.args.numbers.least f)) c.requires.least

pub value_scalar-requires-2-clause-value : goal.value_scalar-requires-2-clause-value
value_scalar-requires-2-clause-value c =
    let f : FitsSigned w128 c.args.numbers.greatest = search rules in
    subst (IsValueOf c.args.format) (sym (to_z-of_z w128 c.args.numbers.greatest f)) c.requires.greatest

pub returns-in-Ok-clause-least : goal.returns-in-Ok-clause-least
returns-in-Ok-clause-least c =
    let f : FitsSigned w128 c.args.numbers.least = search rules in
    let h = c.in_ok-least.ensures in
    record { typed = h.typed; valid = h.valid; is = h.content ∙ ap (stored_content c.args.format) (to_z-of_z w128 c.args.numbers.least f) }

pub returns-in-Ok-clause-greatest : goal.returns-in-Ok-clause-greatest
returns-in-Ok-clause-greatest c =
    let f : FitsSigned w128 c.args.numbers.greatest = search rules in
    let h = c.in-Ok.ensures in
    record { typed = h.typed; valid = h.valid; is = h.content ∙ ap (stored_content c.args.format) (to_z-of_z w128 c.args.numbers.greatest f) }
