use Rattle.std.proofs.Common.{[], ◌≡◌, ◌≢◌, ◌∙◌, ◌+◌, ◌/◌, ◌<◌, Some, ap, arith, length, slice_index_or, ℕ}
use Rattle.arrow_columns.specs.Columns.{end_of, offset_in}
use Rattle.arrow_columns.specs.Offsets.{bytes_between, offset_of}
use Rattle.arrow_columns.proofs.OffsetItems.{SameOffsets, bytes_same, offset_count, offsets_same, row_same, turned}
use Rattle.column_kernels.proofs.spans.write_spans.Goals as goal

pub write_rows-requires-clause-callable : goal.write_rows-requires-clause-callable
write_rows-requires-clause-callable g c = λ row below.
    let W = g.O.Offset.width in
    let column = c.args.column in
    let F : ℕ → ℕ = λ i. offset_of W (slice_index_or c.as_chunks.result.0.now i []) in
    let G : ℕ → ℕ = offset_in W column in
    let m : ℕ = length column.offsets.now / g.row.N in
    let s : SameOffsets F G m = offsets_same W g.row.N m column.offsets.now c.as_chunks.result.0.now c.requires.width c.as_chunks.ensures.front in
    let some : column.length ≢ 0 = λ z. absurd (omega (arith, z, below, c.requires.range)) in
    let past : end_of column < m = offset_count W g.row.N column c.requires.some c.requires.width c.requires.column.1 some in
    let i : ℕ = column.offset + c.args.from + row in (
      omega (arith, c.requires.narrow),
      (
        omega (arith, below, past, c.requires.range, c.as_chunks.ensures.front_len),
        row_same W G F m column.values.now i (turned F G m s) (omega (arith, below, past, c.requires.range)) (c.requires.column.2 i (omega (arith, below, c.requires.range)) (omega arith)),
      ),
    )

pub returns-clause-truth : goal.returns-clause-truth
returns-clause-truth g c = λ row below.
    let W = g.O.Offset.width in
    let column = c.args.column in
    let F : ℕ → ℕ = λ i. offset_of W (slice_index_or c.as_chunks.result.0.now i []) in
    let G : ℕ → ℕ = offset_in W column in
    let m : ℕ = length column.offsets.now / g.row.N in
    let s : SameOffsets F G m = offsets_same W g.row.N m column.offsets.now c.as_chunks.result.0.now c.requires.width c.as_chunks.ensures.front in
    let some : column.length ≢ 0 = λ z. absurd (omega (arith, z, below, c.requires.range)) in
    let past : end_of column < m = offset_count W g.row.N column c.requires.some c.requires.width c.requires.column.1 some in
    let place : column.offset + c.args.from + row ≡ column.offset + (c.args.from + row) = omega arith in
    let same = bytes_same F G m column.values.now (column.offset + c.args.from + row) s (omega (arith, below, past, c.requires.range)) ∙ ap (bytes_between column.values.now G) place in
    let h = c.write_rows.ensures.rows row below in
    h.2 ∙ ap Some (h.1 ∙ ap (g.T.ByteTest.says c.args.test.now) same)
