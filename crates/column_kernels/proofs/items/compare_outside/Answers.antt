use mir.Syntax.{w128}
use Rattle.std.proofs.Common.{[], ◌≡◌, ◌∙◌, ◌+◌, ◌/◌, ◌<◌, Bool, Some, ap, arith, length, of_z, slice_index_or, to_z, ℕ, ℤ}
use Rattle.std.proofs.lemmas.Int.{ints}
use Rattle.std.proofs.lemmas.Nat.{le-div}
use Rattle.std.specs.Ordering.{int_cmp}
use Rattle.arrow_columns.specs.Columns.{end_of}
use Rattle.arrow_columns.specs.Integers.{item_at, number_of}
use Rattle.truth_bitmaps.specs.Truths.{truth_at}
use Rattle.vortex_filter.specs.Operators.{holds}
use Rattle.column_kernels.proofs.CellSteps.{item-told, test-marked}
use Rattle.column_kernels.proofs.items.compare_outside.Goals as goal

pub write_outside-requires : goal.write_outside-requires
write_outside-requires g c =
    let within = le-div (end_of c.args.column) (length c.args.column.values.now) g.row.N c.requires.some c.requires.values in
    (omega (arith, c.requires.narrow), (c.requires.narrow, (omega (arith, c.as_chunks.ensures.front_len, within, c.requires.range), c.requires.words)))

pub returns-clause-truth : goal.returns-clause-truth
returns-clause-truth g c = λ row below.
    let column = c.args.column in
    let test : ℤ → Bool = λ z. holds c.args.operator (int_cmp z c.args.literal) in
    let value : ℕ → ℤ = λ i. number_of g.T.Item.kind (item_at g.row.N column.values.now i) in
    let m : ℕ = length column.values.now / g.row.N in
    let end = le-div (end_of column) (length column.values.now) g.row.N c.requires.some c.requires.values in
    let within : column.offset + (c.args.from + row) < m = omega (arith, end, c.requires.range) in
    let old = truth_at c.write_outside.new.words row in
    let same : to_z w128 (of_z w128 c.args.literal) ≡ c.args.literal = omega (arith, ints) in
    let item = slice_index_or c.as_chunks.result.0.now (column.offset + c.args.from + row) [] in
    test-marked test column.validity.now value (column.offset + (c.args.from + row)) old _ (c.mark_null_rows.ensures.truth row below)
    (item-told g.T.Item.kind g.row.N m column.values.now c.as_chunks.result.0.now test column.offset c.args.from row old c.as_chunks.ensures.front within (c.write_outside.ensures.truth row below ∙ ap (λ z. Some (holds c.args.operator (int_cmp (number_of g.T.Item.kind item) z))) same))
