use Rattle.std.proofs.Common.{[], ◌≡◌, ◌<◌, ◌≤◌, arith, ℕ, ℤ, slice_index_or, subst}
use Rattle.std.proofs.lemmas.Int.{ints}
use Rattle.std.specs.Int.{w128}
use Rattle.arrow_columns.specs.Integers.{IsOfKind, number_of}
use Rattle.arrow_columns.proofs.BufferSteps.{all_within, both_passed, on_true}
use Rattle.arrow_columns.proofs.casts.all_fit.Goals as goal
use mir.Val.{of_z, to_z}

pub returns : goal.returns
returns g c =
    let V : ℕ → ℤ = λ i. number_of g.T.Item.kind (slice_index_or c.args.span.items.now i []) in
    let kind = g.U.Integer.kind in
    let least : ℤ = g.T.Item.number c.without_nulls-gathered.result.least in
    let greatest : ℤ = g.T.Item.number c.without_nulls-gathered.result.greatest in
    let z : ℤ = to_z w128 (of_z w128 c.whole.result) in
    let y : ℤ = to_z w128 (of_z w128 c.whole-2.result) in
    let low : z ≡ least = omega (arith, ints, c.whole.ensures) in
    let high : y ≡ greatest = omega (arith, ints, c.whole-2.ensures) in
    both_passed c.fits-low.result c.fits-high.result (IsOfKind kind z) (IsOfKind kind y)
    ((k : ℕ) → k < c.args.span.end → c.args.span.from ≤ k → IsOfKind kind (V k)) (on_true c.fits-low.result (IsOfKind kind z) (¬ (IsOfKind kind z)) c.fits-low.ensures)
    (on_true c.fits-high.result (IsOfKind kind y) (¬ (IsOfKind kind y)) c.fits-high.ensures)
    (λ p q. all_within kind V c.args.span.from c.args.span.end least greatest c.without_nulls-gathered.ensures.least c.without_nulls-gathered.ensures.greatest
    (subst (IsOfKind kind) low p) (subst (IsOfKind kind) high q))
