use Rattle.std.proofs.Common.{[], ◌≡◌, ◌∙◌, ◌+◌, ◌-◌, ◌*◌, ◌<◌, ◌≤◌, Option, arith, drop, ℕ, ℤ, slice_index_or, subst}
use Rattle.std.proofs.Math.Nat.{mul-le-mul_right}
use Rattle.std.specs.Option.{IfSome}
use Rattle.arrow_columns.specs.Casts.{AreWritten}
use Rattle.arrow_columns.specs.Cells.{cell_at}
use Rattle.arrow_columns.specs.Integers.{IsOfKind, number_of}
use Rattle.arrow_columns.proofs.BufferSteps.{alike_further, more_rows}
use Rattle.arrow_columns.proofs.casts.write_blocks.Goals as goal

pub loop-b-preserved : goal.loop-b-preserved
loop-b-preserved g c =
    let V : ℕ → ℤ = λ i. number_of g.T.Item.kind (slice_index_or c.args.span.items.now i []) in
    let C : ℕ → Option ℤ = cell_at [] V in
    let M : ℕ = g.row.M in
    let from : ℕ = c.args.span.from in
    let start : ℕ = from + 16 * c.loop-b.b in
    let next : start + 16 ≡ from + 16 * (c.loop-b.b + 1) = omega arith in
    let far : 16 * c.loop-b.b * M ≤ 16 * (c.loop-b.b + 1) * M = mul-le-mul_right M (omega arith) in
    let count : start + 16 - from ≡ 16 * (c.loop-b.b + 1) = omega arith in
    record {
      fit = subst (λ (e : ℕ). (k : ℕ) → k < e → from ≤ k → IfSome (C k) (IsOfKind g.U.Integer.kind)) next
          (more_rows (λ k. IfSome (C k) (IsOfKind g.U.Integer.kind)) from start 16 c.loop-b.invariant.fit c.if-not-block_fits.ensures);
      written = subst (λ (e : ℕ). AreWritten g.U.Integer.kind M C from e c.write_block.new.buffer) next c.write_block.ensures.written;
      rest = subst (λ (n : ℕ). drop (n * M) c.write_block.new.buffer ≡ drop (n * M) c.loop-b.buffer) count c.write_block.ensures.rest
          ∙ alike_further (16 * c.loop-b.b * M) (16 * (c.loop-b.b + 1) * M) c.loop-b.buffer c.args.buffer.now far c.loop-b.invariant.rest;
    }
