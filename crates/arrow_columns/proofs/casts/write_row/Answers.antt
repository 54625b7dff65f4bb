use Rattle.std.proofs.Common.{[], ◌≡◌, ◌∙◌, ◌+◌, ◌-◌, ◌*◌, ◌≤◌, Option, ap, arith, below_more, pos, ℕ, ℤ, slice_index_or, unwrap_or}
use Rattle.std.proofs.Math.Nat.{mul-le-mul_right}
use Rattle.std.proofs.lemmas.Int.{ints}
use Rattle.std.proofs.lemmas.List.{get_or_read}
use Rattle.arrow_columns.specs.Cells.{cell_at}
use Rattle.arrow_columns.specs.Integers.{integer_of, item_at, number_of}
use Rattle.arrow_columns.proofs.CellLists.{through_number}
use Rattle.arrow_columns.proofs.BufferSteps.{alike_further, value_or_zero}
use Rattle.arrow_columns.proofs.casts.write_row.Goals as goal

pub returns-clause-written : goal.returns-clause-written
returns-clause-written g c =
    let V : ℕ → ℤ = λ i. number_of g.T.Item.kind (slice_index_or c.args.span.items.now i []) in
    let C : ℕ → Option ℤ = cell_at c.args.span.validity.now V in
    let from : ℕ = c.args.span.from in
    let i : ℕ = c.args.i in
    let M : ℕ = g.row.M in
    let number = integer_of g.U.Integer.kind in
    let place : i ≡ from + (i - from) = omega arith in
    λ k l. below_more (λ k. number (item_at M c.put.new.buffer k) ≡ unwrap_or (C (from + k)) (pos 0)) (i - from)
    (λ j b. ap number (c.put.ensures.before j b) ∙ c.requires.written j b)
    (ap number c.put.ensures.here ∙ c.bytes_or_zero-bytes.ensures
    ∙ value_or_zero c.args.span.validity.now V i c.is_row_valid.result _ c.is_row_valid.ensures
    (through_number _ (g.T.Item.number c.of_bytes.result) _ (omega (arith, ints, c.whole-whole.ensures))
    (c.of_bytes.ensures ∙ ap (number_of g.T.Item.kind) (get_or_read c.args.span.items.now _ _ (omega arith) c.index-items-i.is [])))
    ∙ ap (λ k. unwrap_or (C k) (pos 0)) place) k (omega arith)

pub returns-clause-rest : goal.returns-clause-rest
returns-clause-rest g c =
    let M : ℕ = g.row.M in
    let from : ℕ = c.args.span.from in
    let i : ℕ = c.args.i in
    let further : (i - from + 1) * M ≤ (c.args.span.end - from) * M = mul-le-mul_right M (omega arith) in
    alike_further ((i - from + 1) * M) ((c.args.span.end - from) * M) c.put.new.buffer c.args.buffer.now further c.put.ensures.after
