use Rattle.std.proofs.Common.{[], ◌≢◌, ◌∙◌, ◌/◌, ◌<◌, arith, length, ℕ, slice_index_or}
use Rattle.arrow_columns.specs.Columns.{end_of, offset_in}
use Rattle.arrow_columns.specs.Offsets.{offset_of}
use Rattle.arrow_columns.proofs.OffsetItems.{SameOffsets, bytes_same, offset_count, offsets_same, row_same, turned}
use Rattle.arrow_columns.proofs.reading.bytes.Goals as goal

pub row-requires : goal.row-requires
row-requires g c =
    let W = g.T.Offset.width in
    let F : ℕ → ℕ = λ i. offset_of W (slice_index_or c.as_chunks.result.0.now i []) in
    let G : ℕ → ℕ = offset_in W c.args.column in
    let m : ℕ = length c.args.column.offsets.now / g.row.N in
    let s : SameOffsets F G m = offsets_same W g.row.N m c.args.column.offsets.now c.as_chunks.result.0.now c.requires.width c.as_chunks.ensures.front in
    let some : c.args.column.length ≢ 0 = λ z. absurd (omega arith) in
    let past : end_of c.args.column < m = offset_count W g.row.N c.args.column c.requires.some c.requires.width c.requires.column.1 some in (
      omega (arith, c.requires.narrow),
      (
        omega (arith, past, c.as_chunks.ensures.front_len),
        row_same W G F m c.args.column.values.now c.args.i (turned F G m s) (omega (arith, past)) (c.requires.column.2 c.args.i c.requires.end c.requires.from),
      ),
    )

pub returns : goal.returns
returns g c =
    let W = g.T.Offset.width in
    let F : ℕ → ℕ = λ i. offset_of W (slice_index_or c.as_chunks.result.0.now i []) in
    let G : ℕ → ℕ = offset_in W c.args.column in
    let m : ℕ = length c.args.column.offsets.now / g.row.N in
    let s : SameOffsets F G m = offsets_same W g.row.N m c.args.column.offsets.now c.as_chunks.result.0.now c.requires.width c.as_chunks.ensures.front in
    let some : c.args.column.length ≢ 0 = λ z. absurd (omega arith) in
    let past : end_of c.args.column < m = offset_count W g.row.N c.args.column c.requires.some c.requires.width c.requires.column.1 some in
    c.row.ensures ∙ bytes_same F G m c.args.column.values.now c.args.i s (omega (arith, past))
