use Rattle.std.proofs.Common.{[], ◌≡◌, ◌∙◌, ◌-◌, None, Option, Some, add-zero, ap, arith, ℕ, ℤ, slice_index_or, subst, sym}
use Rattle.std.specs.Option.{is_none}
use Rattle.std.proofs.lemmas.List.{get_or_read}
use Rattle.arrow_columns.specs.Cells.{cell_at}
use Rattle.arrow_columns.specs.Integers.{number_of}
use Rattle.arrow_columns.specs.Running.{IsGreatestBefore, IsLeastBefore, nulls_from}
use Rattle.arrow_columns.proofs.CellLists.{count_more, null_cell, valid_cell, valid_or}
use Rattle.arrow_columns.proofs.RowSteps.{greatest_kept, greatest_more, least_kept, least_more}
use Rattle.arrow_columns.proofs.extremes.by_rows.Goals as goal
use Rattle.arrow_columns.proofs.extremes.by_rows.Goals.{else-is_set, then-is_set}

pub loop-i-preserved : goal.loop-i-preserved
loop-i-preserved g c =
    let V : ℕ → ℤ = λ i. number_of g.T.Item.kind (slice_index_or c.args.items.now i []) in
    let C : ℕ → Option ℤ = cell_at c.args.validity.now V in
    let i : ℕ = c.loop-i.i in
    elim c.if-is_set.branch [
      | then-is_set w ↦
          let value : g.T.Item.number w.of_bytes-value.result ≡ V i =
          w.of_bytes-value.ensures ∙ ap (number_of g.T.Item.kind) (get_or_read c.args.items.now _ _ (omega arith) w.index-items-i.is []) in
          let cell : C i ≡ Some (g.T.Item.number w.of_bytes-value.result) = valid_cell c.args.validity.now V i _ (valid_or c.args.validity.now i c.requires.bitmap (sym c.is_set.ensures ∙ w.if-is_set.true)) value in
          record {
            nulls = count_more is_none C c.args.from i c.loop-i.null_count _ _ (omega arith) cell c.loop-i.invariant.nulls (w.null_count-is ∙ sym (add-zero _));
            within = omega (arith, w.null_count-is, c.loop-i.invariant.within);
            least = least_more C c.args.from i _ _ _ c.loop-i.invariant.least (omega arith) cell (ap g.T.Item.number w.least-is ∙ w.lesser-least.ensures);
            greatest = greatest_more C c.args.from i _ _ _ c.loop-i.invariant.greatest (omega arith) cell (ap g.T.Item.number w.greatest-is ∙ w.greater-greatest.ensures);
          }
      | else-is_set w ↦
          let cell : C i ≡ None = null_cell c.args.validity.now V i (valid_or c.args.validity.now i c.requires.bitmap (sym c.is_set.ensures ∙ w.if-is_set.false)) in
          record {
            nulls = count_more is_none C c.args.from i c.loop-i.null_count _ None (omega arith) cell c.loop-i.invariant.nulls w.null_count-is;
            within = omega (arith, w.null_count-is, c.loop-i.invariant.within);
            least = least_kept C c.args.from i _ _ c.loop-i.invariant.least cell (ap g.T.Item.number w.least-is);
            greatest = greatest_kept C c.args.from i _ _ c.loop-i.invariant.greatest cell (ap g.T.Item.number w.greatest-is);
          }
    ]

pub returns : goal.returns
returns g c =
    let V : ℕ → ℤ = λ i. number_of g.T.Item.kind (slice_index_or c.args.items.now i []) in
    let C : ℕ → Option ℤ = cell_at c.args.validity.now V in
    let past : c.loop-i.i ≡ c.args.end = omega arith in
    record {
      nulls = c.loop-i.invariant.nulls ∙ ap (λ i. nulls_from C c.args.from (i - c.args.from)) past;
      within = omega (arith, c.loop-i.invariant.within);
      least = subst (λ i. IsLeastBefore C c.args.from i (g.T.Item.number c.loop-i.least)) past c.loop-i.invariant.least;
      greatest = subst (λ i. IsGreatestBefore C c.args.from i (g.T.Item.number c.loop-i.greatest)) past c.loop-i.invariant.greatest;
    }
