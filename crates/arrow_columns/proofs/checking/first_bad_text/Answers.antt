use Rattle.std.proofs.Common.{[], ◌≡◌, ◌+◌, ◌-◌, ◌/◌, ◌<◌, IsUtf8, arith, length, slice_index_or, subst, sym, true, List, ℕ}
use Rattle.arrow_columns.specs.Bitmaps.{is_valid}
use Rattle.arrow_columns.specs.Columns.{end_of, offset_in}
use Rattle.arrow_columns.specs.Offsets.{bytes_between, offset_of}
use Rattle.arrow_columns.proofs.OffsetItems.{SameOffsets, offset_count, offsets_same, rows_same, text_same, turned}
use Rattle.arrow_columns.proofs.checking.first_bad_text.Goals as goal

pub first_not_utf8-requires : goal.first_not_utf8-requires
first_not_utf8-requires g c =
    let W = g.T.Offset.width in
    let F : ℕ → ℕ = λ i. offset_of W (slice_index_or c.as_chunks.result.0.now i []) in
    let G : ℕ → ℕ = offset_in W c.args.column in
    let m : ℕ = length c.args.column.offsets.now / g.row.N in
    let s : SameOffsets F G m = offsets_same W g.row.N m c.args.column.offsets.now c.as_chunks.result.0.now c.requires.width c.as_chunks.ensures.front in
    let past : end_of c.args.column < m = offset_count W g.row.N c.args.column c.requires.some c.requires.width c.requires.column.1 c.if-column-eq0.false in (
      omega (arith, c.requires.narrow),
      (
        c.requires.narrow,
        (
          omega arith,
          (
            c.requires.column.0.1,
            (
              omega (arith, past, c.as_chunks.ensures.front_len),
              rows_same W G F m c.args.column.values.now c.args.column.offset (end_of c.args.column) (turned F G m s) past c.requires.column.2,
            ),
          ),
        ),
      ),
    )

pub returns-in-Some : goal.returns-in-Some
returns-in-Some g c =
    let W = g.T.Offset.width in
    let F : ℕ → ℕ = λ i. offset_of W (slice_index_or c.as_chunks.result.0.now i []) in
    let G : ℕ → ℕ = offset_in W c.args.column in
    let m : ℕ = length c.args.column.offsets.now / g.row.N in
    let bytes : List ℕ = c.args.column.values.now in
    let s : SameOffsets F G m = offsets_same W g.row.N m c.args.column.offsets.now c.as_chunks.result.0.now c.requires.width c.as_chunks.ensures.front in
    let past : end_of c.args.column < m = offset_count W g.row.N c.args.column c.requires.some c.requires.width c.requires.column.1 c.if-column-eq0.false in
    let i : ℕ = c.in-Some.i in
    let place : i ≡ c.args.column.offset + (i - c.args.column.offset) = omega (arith, c.in-Some.ensures.1) in (
      omega (arith, c.in-Some.ensures.0, c.in-Some.ensures.1),
      λ row l v. text_same F G m bytes (c.args.column.offset + row) s (omega (arith, l, past, c.in-Some.ensures.0)) (c.in-Some.ensures.2 (c.args.column.offset + row) (omega (arith, l, place)) (omega arith) v),
      λ t.
          let t' : is_valid c.args.column.validity.now i ≡ true → IsUtf8 (bytes_between bytes G i) = subst (λ k. is_valid c.args.column.validity.now k ≡ true → IsUtf8 (bytes_between bytes G k)) (sym place) t in
          c.in-Some.ensures.4 (text_same G F m bytes i (turned F G m s) (omega (arith, past, c.in-Some.ensures.0)) (t' c.in-Some.ensures.3)),
    )

pub returns-in-None : goal.returns-in-None
returns-in-None g c =
    let W = g.T.Offset.width in
    let F : ℕ → ℕ = λ i. offset_of W (slice_index_or c.as_chunks.result.0.now i []) in
    let G : ℕ → ℕ = offset_in W c.args.column in
    let m : ℕ = length c.args.column.offsets.now / g.row.N in
    let s : SameOffsets F G m = offsets_same W g.row.N m c.args.column.offsets.now c.as_chunks.result.0.now c.requires.width c.as_chunks.ensures.front in
    let past : end_of c.args.column < m = offset_count W g.row.N c.args.column c.requires.some c.requires.width c.requires.column.1 c.if-column-eq0.false in
    λ row l v. text_same F G m c.args.column.values.now (c.args.column.offset + row) s (omega (arith, l, past)) (c.in-None.ensures (c.args.column.offset + row) (omega (arith, l)) (omega arith) v)
