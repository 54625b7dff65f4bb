use Rattle.std.proofs.Common.{[], ◌≡◌, ◌∙◌, ◌+◌, ◌<◌, ap, arith, below_more, ℕ, ℤ, slice_index_or, subst}
use Rattle.std.proofs.lemmas.Int.{ints}
use Rattle.std.proofs.lemmas.List.{get_or_read}
use Rattle.std.specs.Int.{w128}
use Rattle.arrow_columns.specs.Integers.{IsOfKind, number_of}
use Rattle.arrow_columns.proofs.CellLists.{through_number}
use Rattle.arrow_columns.proofs.BufferSteps.{both_passed, on_true}
use Rattle.arrow_columns.proofs.casts.block_fits.Goals as goal
use mir.Val.{of_z, to_z}

pub loop-j-preserved : goal.loop-j-preserved
loop-j-preserved g c =
    let V : ℕ → ℤ = λ j. number_of g.T.Item.kind (slice_index_or c.args.span.items.now (c.args.start + j) []) in
    let Fits : ℕ → Type 0 = λ j. IsOfKind g.U.Integer.kind (V j) in
    let j : ℕ = c.loop-j.j in
    let z : ℤ = to_z w128 (of_z w128 c.whole.result) in
    let same : z ≡ V j =
    through_number z (g.T.Item.number c.of_bytes.result) (V j) (omega (arith, ints, c.whole.ensures))
    (c.of_bytes.ensures ∙ ap (number_of g.T.Item.kind) (get_or_read c.args.span.items.now _ _ (omega arith) c.index-items-start.is [])) in
    both_passed c.loop-j.fits c.fits-fits.result ((k : ℕ) → k < j → Fits k) (IsOfKind g.U.Integer.kind z) ((k : ℕ) → k < j + 1 → Fits k)
    c.loop-j.invariant (on_true c.fits-fits.result (IsOfKind g.U.Integer.kind z) (¬ (IsOfKind g.U.Integer.kind z)) c.fits-fits.ensures) (λ before here. below_more Fits j before (subst (IsOfKind g.U.Integer.kind) same here))
