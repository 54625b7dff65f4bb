use Rattle.std.proofs.Common.{[], ◌≡◌, ◌∙◌, ◌≤◌, Option, ap, arith, below_more, sym, ℕ, ℤ, slice_index_or}
use Rattle.std.proofs.lemmas.Int.{ints}
use Rattle.std.proofs.lemmas.List.{get_or_read}
use Rattle.std.specs.Int.{w128}
use Rattle.std.specs.Option.{IfSome}
use Rattle.arrow_columns.specs.Cells.{cell_at}
use Rattle.arrow_columns.specs.Integers.{IsOfKind, number_of}
use Rattle.arrow_columns.proofs.CellLists.{null_cell, through_number, valid_cell}
use Rattle.arrow_columns.proofs.BufferSteps.{passed}
use Rattle.arrow_columns.proofs.RowSteps.{at_null, at_value}
use Rattle.arrow_columns.proofs.casts.find_without.Goals as goal
use Rattle.arrow_columns.proofs.casts.find_without.Goals.{else-is_row_valid-via-else-is_row_valid, else-is_row_valid-via-then-is_row_valid+else-not-fits}
use mir.Val.{of_z, to_z}

pub loop-i-preserved : goal.loop-i-preserved
loop-i-preserved g c =
    let V : ℕ → ℤ = λ i. number_of g.T.Item.kind (slice_index_or c.args.span.items.now i []) in
    let C : ℕ → Option ℤ = cell_at c.args.span.validity.now V in
    let from : ℕ = c.args.span.from in
    let i : ℕ = c.loop-i.i in
    let here : IfSome (C i) (IsOfKind g.U.Integer.kind) = elim c.else-is_row_valid.branch [
      | else-is_row_valid-via-then-is_row_valid+else-not-fits w ↦
          let z : ℤ = to_z w128 (of_z w128 w.whole.result) in
          let same : z ≡ V i =
          through_number z (g.T.Item.number w.of_bytes.result) (V i) (omega (arith, ints, w.whole.ensures))
          (w.of_bytes.ensures ∙ ap (number_of g.T.Item.kind) (get_or_read c.args.span.items.now _ _ (omega arith) w.index-items-i.is [])) in
          at_value (IsOfKind g.U.Integer.kind) (C i) z (valid_cell c.args.span.validity.now V i z (sym c.is_row_valid.ensures ∙ w.if-is_row_valid.true) same)
          (passed w.fits.result (IsOfKind g.U.Integer.kind z) (¬ (IsOfKind g.U.Integer.kind z)) w.fits.ensures w.if-not-fits.false)
      | else-is_row_valid-via-else-is_row_valid w ↦
          at_null (IsOfKind g.U.Integer.kind) (C i) (null_cell c.args.span.validity.now V i (sym c.is_row_valid.ensures ∙ w.if-is_row_valid.false))
    ] in
    below_more (λ k. from ≤ k → IfSome (C k) (IsOfKind g.U.Integer.kind)) i c.loop-i.invariant (λ f. here)
