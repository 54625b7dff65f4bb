use Rattle.std.proofs.Common.{[], ◌≡◌, ◌∙◌, ◌-◌, ◌<◌, ◌≤◌, None, Option, Some, ap, arith, ℕ, ℤ, slice_index_or, subst}
use Rattle.std.proofs.lemmas.List.{get_or_read}
use Rattle.arrow_columns.specs.Cells.{cell_at}
use Rattle.arrow_columns.specs.Integers.{number_of}
use Rattle.arrow_columns.specs.Running.{IsGreatestBefore, IsLeastBefore}
use Rattle.arrow_columns.proofs.CellLists.{is_none_valid, no_nulls, valid_cell, valid_without}
use Rattle.arrow_columns.proofs.RowSteps.{greatest_first, greatest_more, least_first, least_more}
use Rattle.arrow_columns.proofs.extremes.without_nulls.Goals as goal

pub loop-i-init : goal.loop-i-init
loop-i-init g c =
    let V : ℕ → ℤ = λ i. number_of g.T.Item.kind (slice_index_or c.args.items.now i []) in
    let C : ℕ → Option ℤ = cell_at c.args.validity.now V in
    let from : ℕ = c.args.from in
    let value : g.T.Item.number c.of_bytes-first.result ≡ V from =
    c.of_bytes-first.ensures ∙ ap (number_of g.T.Item.kind) (get_or_read c.args.items.now _ _ (omega arith) c.index-items-from.is []) in
    let cell : C from ≡ Some (g.T.Item.number c.of_bytes-first.result) = valid_cell c.args.validity.now V from _ (valid_without c.args.validity.now from c.requires.no_bitmap) value in
    let none : (k : ℕ) → k < from → from ≤ k → C k ≡ None = λ k l f. absurd (omega arith) in
    record {
      least = least_first C from from _ (omega arith) cell none;
      greatest = greatest_first C from from _ (omega arith) cell none;
    }

pub loop-i-preserved : goal.loop-i-preserved
loop-i-preserved g c =
    let V : ℕ → ℤ = λ i. number_of g.T.Item.kind (slice_index_or c.args.items.now i []) in
    let C : ℕ → Option ℤ = cell_at c.args.validity.now V in
    let i : ℕ = c.loop-i.i in
    let value : g.T.Item.number c.of_bytes-value.result ≡ V i =
    c.of_bytes-value.ensures ∙ ap (number_of g.T.Item.kind) (get_or_read c.args.items.now _ _ (omega arith) c.index-items-i.is []) in
    let cell : C i ≡ Some (g.T.Item.number c.of_bytes-value.result) = valid_cell c.args.validity.now V i _ (valid_without c.args.validity.now i c.requires.no_bitmap) value in
    record {
      least = least_more C c.args.from i _ _ _ c.loop-i.invariant.least (omega arith) cell c.lesser-least.ensures;
      greatest = greatest_more C c.args.from i _ _ _ c.loop-i.invariant.greatest (omega arith) cell c.greater-greatest.ensures;
    }

pub returns : goal.returns
returns g c =
    let V : ℕ → ℤ = λ i. number_of g.T.Item.kind (slice_index_or c.args.items.now i []) in
    let C : ℕ → Option ℤ = cell_at c.args.validity.now V in
    let past : c.loop-i.i ≡ c.args.end = omega arith in
    record {
      nulls = no_nulls C c.args.from (c.args.end - c.args.from) (λ k. is_none_valid c.args.validity.now V k (valid_without c.args.validity.now k c.requires.no_bitmap));
      within = omega arith;
      least = subst (λ i. IsLeastBefore C c.args.from i (g.T.Item.number c.loop-i.least)) past c.loop-i.invariant.least;
      greatest = subst (λ i. IsGreatestBefore C c.args.from i (g.T.Item.number c.loop-i.greatest)) past c.loop-i.invariant.greatest;
    }
