use mir.Syntax.{w128}
use Rattle.std.proofs.Common.{[], ◌≡◌, ◌∙◌, ◌+◌, Some, ap, arith, of_z, slice_index_or, to_z}
use Rattle.std.proofs.lemmas.Int.{ints}
use Rattle.std.specs.Ordering.{int_cmp}
use Rattle.arrow_columns.specs.Integers.{number_of}
use Rattle.vortex_filter.specs.Operators.{holds}
use Rattle.column_kernels.proofs.items.write_outside.Goals as goal

pub returns-clause-truth : goal.returns-clause-truth
returns-clause-truth g c = λ row below.
    let h = c.write_rows.ensures.rows row below in
    let same : to_z w128 (of_z w128 c.args.literal) ≡ c.args.literal = omega (arith, ints) in
    h.2 ∙ ap Some h.1 ∙ ap (λ z. Some (holds c.args.operator (int_cmp (number_of g.T.Item.kind (slice_index_or c.args.items.now (c.args.start + row) [])) z))) same
