use Rattle.std.proofs.Common.{[], ◌≡◌, ◌+◌, ◌-◌, ◌/◌, ◌<◌, ℕ, arith, length, slice_index_or, subst, sym}
use Rattle.arrow_columns.specs.Columns.{offset_in}
use Rattle.arrow_columns.specs.Offsets.{AreRows, IsRow, offset_of}
use Rattle.arrow_columns.proofs.OffsetItems.{SameOffsets, has_offsets, offsets_same, row_same, rows_same, turned}
use Rattle.arrow_columns.proofs.checking.test_offsets.Goals as goal

pub returns-in-Some-clause-fault : goal.returns-in-Some-clause-fault
returns-in-Some-clause-fault g c =
    let W = g.T.Offset.width in
    let F : ℕ → ℕ = λ i. offset_of W (slice_index_or c.as_chunks.result.0.now i []) in
    let G : ℕ → ℕ = offset_in W c.args.column in
    let m : ℕ = length c.args.column.offsets.now / g.row.N in
    let s : SameOffsets F G m = offsets_same W g.row.N m c.args.column.offsets.now c.as_chunks.result.0.now c.requires.width c.as_chunks.ensures.front in
    let i : ℕ = c.in-Some.i in
    let place : i ≡ c.args.column.offset + (i - c.args.column.offset) = omega (arith, c.in-Some.ensures.1) in
    let past : c.in_ok-end.end < m = omega (arith, c.as_chunks.ensures.front_len) in (
      c.in_ok-end.ensures.rows.1,
      has_offsets W g.row.N c.args.column c.in_ok-end.end c.requires.some c.requires.width c.in_ok-end.ensures.rows.0 past,
      omega (arith, c.in-Some.ensures.0, c.in-Some.ensures.1, c.in_ok-end.ensures.rows.0),
      subst (AreRows W c.args.column.values.now G c.args.column.offset) place (rows_same W F G m c.args.column.values.now c.args.column.offset i s (omega (arith, c.in-Some.ensures.0, past)) c.in-Some.ensures.2),
      λ r. c.in-Some.ensures.3 (row_same W G F m c.args.column.values.now i (turned F G m s) (omega (arith, c.in-Some.ensures.0, past)) (subst (IsRow W c.args.column.values.now G) (sym place) r)),
    )

pub returns-in-None-clause-column : goal.returns-in-None-clause-column
returns-in-None-clause-column g c =
    let W = g.T.Offset.width in
    let F : ℕ → ℕ = λ i. offset_of W (slice_index_or c.as_chunks.result.0.now i []) in
    let G : ℕ → ℕ = offset_in W c.args.column in
    let m : ℕ = length c.args.column.offsets.now / g.row.N in
    let s : SameOffsets F G m = offsets_same W g.row.N m c.args.column.offsets.now c.as_chunks.result.0.now c.requires.width c.as_chunks.ensures.front in
    let past : c.in_ok-end.end < m = omega (arith, c.as_chunks.ensures.front_len) in (
      c.in_ok-end.ensures.rows.1,
      has_offsets W g.row.N c.args.column c.in_ok-end.end c.requires.some c.requires.width c.in_ok-end.ensures.rows.0 past,
      subst (AreRows W c.args.column.values.now G c.args.column.offset) c.in_ok-end.ensures.rows.0 (rows_same W F G m c.args.column.values.now c.args.column.offset c.in_ok-end.end s past c.in-None.ensures),
    )
