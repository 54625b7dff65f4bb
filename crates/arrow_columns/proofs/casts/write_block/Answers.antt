use Rattle.std.proofs.Common.{[], ◌≡◌, ◌∙◌, ◌+◌, ◌-◌, ◌*◌, ◌<◌, ◌≤◌, ap, arith, below_more, ℕ, ℤ, slice_index_or, subst, sym}
use Rattle.std.proofs.Math.Nat.{mul-le-mul_right}
use Rattle.std.proofs.lemmas.Int.{ints}
use Rattle.std.proofs.lemmas.List.{get_or_read}
use Rattle.std.specs.Int.{w128}
use Rattle.arrow_columns.specs.Integers.{IsOfKind, integer_of, item_at, number_of}
use Rattle.arrow_columns.proofs.CellLists.{through_number}
use Rattle.arrow_columns.proofs.BufferSteps.{alike_further}
use Rattle.arrow_columns.proofs.casts.write_block.Goals as goal
use mir.Val.{of_z, to_z}

pub of_whole-requires : goal.of_whole-requires
of_whole-requires g c =
    let V : ℕ → ℤ = λ i. number_of g.T.Item.kind (slice_index_or c.args.span.items.now i []) in
    let i : ℕ = c.args.start + c.loop-j.j in
    let z : ℤ = to_z w128 (of_z w128 c.whole.result) in
    let same : z ≡ V i =
    through_number z (g.T.Item.number c.of_bytes.result) (V i) (omega (arith, ints, c.whole.ensures))
    (c.of_bytes.ensures ∙ ap (number_of g.T.Item.kind) (get_or_read c.args.span.items.now _ _ (omega arith) c.index-items-start.is [])) in
    subst (IsOfKind g.U.Integer.kind) (sym same) (c.requires.fit c.loop-j.j c.loop-j-test.true)

pub loop-k-preserved : goal.loop-k-preserved
loop-k-preserved g c =
    let V : ℕ → ℤ = λ i. number_of g.T.Item.kind (slice_index_or c.args.span.items.now i []) in
    let number = integer_of g.U.Integer.kind in
    let M : ℕ = g.row.M in
    let from : ℕ = c.args.span.from in
    let start : ℕ = c.args.start in
    let k : ℕ = c.loop-k.k in
    let at : ℕ = start - from + k in
    let place : start + k ≡ from + at = omega arith in
    let within : k < c.loop-j.j = omega arith in
    let further : (at + 1) * M ≤ (start + 16 - from) * M = mul-le-mul_right M (omega arith) in
    record {
      written = λ n l. below_more (λ n. number (item_at M c.put.new.buffer n) ≡ V (from + n)) at
          (λ j b. ap number (c.put.ensures.before j b) ∙ c.loop-k.invariant.written j (omega arith))
          (ap number c.put.ensures.here ∙ c.loop-j.invariant.read k within ∙ ap V place) n (omega arith);
      rest = alike_further ((at + 1) * M) ((start + 16 - from) * M) c.put.new.buffer c.loop-k.buffer further c.put.ensures.after ∙ c.loop-k.invariant.rest;
    }
