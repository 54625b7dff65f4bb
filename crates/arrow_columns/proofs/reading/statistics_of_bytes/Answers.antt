use Rattle.std.proofs.Common.{[], ◌+◌, ◌-◌, ◌/◌, ◌<◌, arith, length, ℕ, slice_index_or, subst}
use Rattle.arrow_columns.specs.Columns.{end_of, offset_in}
use Rattle.arrow_columns.specs.Offsets.{bytes_between, offset_of}
use Rattle.arrow_columns.specs.Statistics.{AreByteStatisticsOf}
use Rattle.arrow_columns.proofs.CellLists.{values_alike}
use Rattle.arrow_columns.proofs.OffsetItems.{SameOffsets, bytes_same, offset_count, offsets_same, rows_same, turned}
use Rattle.arrow_columns.proofs.reading.statistics_of_bytes.Goals as goal

pub statistics_of_byte_rows-requires : goal.statistics_of_byte_rows-requires
statistics_of_byte_rows-requires g c =
    let W = g.T.Offset.width in
    let F : ℕ → ℕ = λ i. offset_of W (slice_index_or c.as_chunks.result.0.now i []) in
    let G : ℕ → ℕ = offset_in W c.args.column in
    let m : ℕ = length c.args.column.offsets.now / g.row.N in
    let s : SameOffsets F G m = offsets_same W g.row.N m c.args.column.offsets.now c.as_chunks.result.0.now c.requires.width c.as_chunks.ensures.front in
    let past : end_of c.args.column < m = offset_count W g.row.N c.args.column c.requires.some c.requires.width c.requires.column.1 c.if-column-eq0.false in (
      omega (arith, c.requires.narrow),
      (
        c.requires.narrow,
        (
          omega arith,
          (
            c.requires.column.0.1,
            (
              omega (arith, past, c.as_chunks.ensures.front_len),
              rows_same W G F m c.args.column.values.now c.args.column.offset (end_of c.args.column) (turned F G m s) past c.requires.column.2,
            ),
          ),
        ),
      ),
    )

pub returns : goal.returns
returns g c =
    let W = g.T.Offset.width in
    let column = c.args.column in
    let F : ℕ → ℕ = λ i. offset_of W (slice_index_or c.as_chunks.result.0.now i []) in
    let G : ℕ → ℕ = offset_in W column in
    let m : ℕ = length column.offsets.now / g.row.N in
    let s : SameOffsets F G m = offsets_same W g.row.N m column.offsets.now c.as_chunks.result.0.now c.requires.width c.as_chunks.ensures.front in
    let past : end_of column < m = offset_count W g.row.N column c.requires.some c.requires.width c.requires.column.1 c.if-column-eq0.false in
    subst (λ cells. AreByteStatisticsOf cells c.statistics_of_byte_rows.result)
    (values_alike column.validity.now (bytes_between column.values.now F) (bytes_between column.values.now G) column.offset (column.offset + column.length - column.offset) column.length (end_of column) (omega arith) (omega arith)
    (λ k l. bytes_same F G m column.values.now k s (omega (arith, l, past))))
    c.statistics_of_byte_rows.ensures
