use Rattle.std.proofs.Common.{[], ◌+◌, ◌/◌, ◌<◌, Bool, arith, length, ℕ, ℤ}
use Rattle.std.proofs.lemmas.Nat.{le-div}
use Rattle.std.specs.Ordering.{int_cmp}
use Rattle.arrow_columns.specs.Columns.{end_of}
use Rattle.arrow_columns.specs.Integers.{item_at, number_of}
use Rattle.truth_bitmaps.specs.Truths.{truth_at}
use Rattle.vortex_filter.specs.Operators.{holds}
use Rattle.column_kernels.proofs.CellSteps.{item-told, test-marked}
use Rattle.column_kernels.proofs.items.compare_with.Goals as goal

pub write_compared-requires : goal.write_compared-requires
write_compared-requires g c =
    let within = le-div (end_of c.args.column) (length c.args.column.values.now) g.row.N c.requires.some c.requires.values in
    (omega (arith, c.requires.narrow), (c.requires.narrow, (omega (arith, c.as_chunks.ensures.front_len, within, c.requires.range), c.requires.words)))

pub returns-clause-truth : goal.returns-clause-truth
returns-clause-truth g c = λ row below.
    let column = c.args.column in
    let test : ℤ → Bool = λ z. holds c.args.operator (int_cmp z (g.C.Comparand.number c.args.literal)) in
    let value : ℕ → ℤ = λ i. number_of g.C.Comparand.kind (item_at g.row.N column.values.now i) in
    let m : ℕ = length column.values.now / g.row.N in
    let end = le-div (end_of column) (length column.values.now) g.row.N c.requires.some c.requires.values in
    let within : column.offset + (c.args.from + row) < m = omega (arith, end, c.requires.range) in
    let old = truth_at c.write_compared.new.words row in
    test-marked test column.validity.now value (column.offset + (c.args.from + row)) old _ (c.mark_null_rows.ensures.truth row below)
    (item-told g.C.Comparand.kind g.row.N m column.values.now c.as_chunks.result.0.now test column.offset c.args.from row old c.as_chunks.ensures.front within (c.write_compared.ensures.truth row below))
