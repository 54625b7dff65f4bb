use Rattle.std.proofs.Common.{[], ◌≡◌, ◌∙◌, ◌+◌, ◌-◌, ◌<◌, ◌≤◌, ◌||◌, true, false, None, Option, Some, List, add-zero, ap, arith, refl, ℕ, slice_index_or, slice_range, subst, sym}
use Rattle.std.specs.Option.{is_none}
use Rattle.arrow_columns.specs.Bitmaps.{bit_of}
use Rattle.arrow_columns.specs.Cells.{cell_at}
use Rattle.arrow_columns.specs.Offsets.{bytes_between, offset_of}
use Rattle.arrow_columns.specs.Running.{IsBestAt, nulls_from}
use Rattle.arrow_columns.specs.declared.byte_spans.ByteSpan.{ByteSpan}
use Rattle.arrow_columns.specs.Statistics.{NotAbove}
use Rattle.arrow_columns.proofs.ByteOrder.{best_first, best_kept, byte_statistics_given, byte_statistics_of_nulls, downward, upward}
use Rattle.arrow_columns.proofs.CellLists.{all_nulls, count_more, null_cell, valid_cell}
use Rattle.arrow_columns.proofs.SpanSteps.{best_chosen, between_same}
use Rattle.arrow_columns.proofs.byte_extremes.gather.Goals as goal
use Rattle.arrow_columns.proofs.byte_extremes.gather.Goals.{else-not-is_valid, then-not-is_valid}

pub returns-then-start-end : goal.returns-then-start-end
returns-then-start-end g c =
    let V : ℕ → List ℕ = bytes_between c.args.bytes.now (λ i. offset_of g.T.Offset.width (slice_index_or c.args.offsets.now i [])) in
    let C : ℕ → Option (List ℕ) = cell_at c.args.validity.now V in
    let nulls : (k : ℕ) → k < c.args.end → c.args.from ≤ k → C k ≡ None =
    λ k l f. null_cell c.args.validity.now V k (c.first_valid-start.ensures.nulls k (omega arith) f) in
    byte_statistics_of_nulls C c.args.from (c.args.end - c.args.from) c.args.end _ (omega arith) refl nulls

pub loop-i-init : goal.loop-i-init
loop-i-init g c =
    let V : ℕ → List ℕ = bytes_between c.args.bytes.now (λ i. offset_of g.T.Offset.width (slice_index_or c.args.offsets.now i [])) in
    let C : ℕ → Option (List ℕ) = cell_at c.args.validity.now V in
    let from : ℕ = c.args.from in
    let start : ℕ = c.first_valid-start.result in
    let cell : C start ≡ Some (V start) = valid_cell c.args.validity.now V start (V start) (c.first_valid-start.ensures.valid (omega arith)) refl in
    let nulls : (k : ℕ) → k < start → from ≤ k → C k ≡ None =
    λ k l f. null_cell c.args.validity.now V k (c.first_valid-start.ensures.nulls k l f) in
    let least : c.of-span.result.least ≡ start = c.of-span.ensures.rows.0 in
    let greatest : c.of-span.result.greatest ≡ start = c.of-span.ensures.rows.1 in
    record {
      nulls = count_more is_none C from start (start - from) (start - from) (Some (V start)) (omega arith) cell (all_nulls C from (start - from) start (omega arith) nulls) (sym (add-zero _));
      within = omega arith;
      span = c.of-span.ensures.span;
      least = subst (IsBestAt NotAbove C V from (start + 1)) (sym least) (best_first NotAbove upward C V from start (omega arith) cell nulls);
      greatest = subst (IsBestAt (λ x y. NotAbove y x) C V from (start + 1)) (sym greatest) (best_first (λ x y. NotAbove y x) downward C V from start (omega arith) cell nulls);
      low = c.of-span.ensures.values.0 ∙ c.row.ensures ∙ ap V (sym least);
      high = c.of-span.ensures.values.1 ∙ c.row.ensures ∙ ap V (sym greatest);
    }

pub loop-i-preserved-then-is_empty : goal.loop-i-preserved-then-is_empty
loop-i-preserved-then-is_empty g c =
    let O : ℕ → ℕ = λ i. offset_of g.T.Offset.width (slice_index_or c.args.offsets.now i []) in
    let V : ℕ → List ℕ = bytes_between c.args.bytes.now O in
    let C : ℕ → Option (List ℕ) = cell_at c.args.validity.now V in
    let from : ℕ = c.args.from in
    let i : ℕ = c.loop-i.i in
    let inv = c.loop-i.invariant in
    let cell : C i ≡ Some (V i) = valid_cell c.args.validity.now V i (V i) (ap (λ b. b || bit_of c.args.validity.now i) (sym c.is_empty.ensures ∙ c.if-is_empty.true)) refl in
    let value : slice_range c.args.bytes.now c.read_offset-begin.result c.read_offset-stop.result ≡ V i = between_same c.args.bytes.now O i _ _ c.read_offset-begin.ensures c.read_offset-stop.ensures in
    let low = best_chosen NotAbove upward C V from i c.loop-i.span.least c.widen.new.self.least _ _ _ inv.least (omega arith) cell value inv.low c.widen.ensures.widened.least in
    let high = best_chosen (λ x y. NotAbove y x) downward C V from i c.loop-i.span.greatest c.widen.new.self.greatest _ _ _ inv.greatest (omega arith) cell value inv.high c.widen.ensures.widened.greatest in
    record {
      nulls = count_more is_none C from i c.loop-i.null_count _ (Some (V i)) (omega arith) cell inv.nulls (sym (add-zero _));
      within = omega (arith, inv.within);
      span = c.widen.ensures.span;
      least = low.0;
      greatest = high.0;
      low = low.1;
      high = high.1;
    }

pub loop-i-preserved : goal.loop-i-preserved
loop-i-preserved g c =
    let O : ℕ → ℕ = λ i. offset_of g.T.Offset.width (slice_index_or c.args.offsets.now i []) in
    let V : ℕ → List ℕ = bytes_between c.args.bytes.now O in
    let C : ℕ → Option (List ℕ) = cell_at c.args.validity.now V in
    let from : ℕ = c.args.from in
    let i : ℕ = c.loop-i.i in
    let inv = c.loop-i.invariant in
    elim c.if-not-is_valid.branch [
      | then-not-is_valid w ↦
          let null : c.is_row_valid-is_valid.result ≡ false = w.if-not-is_valid.true in
          let cell : C i ≡ None = null_cell c.args.validity.now V i (sym c.is_row_valid-is_valid.ensures ∙ null) in
          let kept : c.widen_if.new.self ≡ c.loop-i.span = c.widen_if.ensures.kept null in
          record {
            nulls = count_more is_none C from i c.loop-i.null_count _ None (omega arith) cell inv.nulls w.null_count-is;
            within = omega (arith, w.null_count-is, inv.within);
            span = c.widen_if.ensures.span;
            least = best_kept NotAbove C V from i c.loop-i.span.least _ inv.least cell (ap (λ (s : ByteSpan). s.least) kept);
            greatest = best_kept (λ x y. NotAbove y x) C V from i c.loop-i.span.greatest _ inv.greatest cell (ap (λ (s : ByteSpan). s.greatest) kept);
            low = subst (λ (s : ByteSpan). s.low.now ≡ V s.least) (sym kept) inv.low;
            high = subst (λ (s : ByteSpan). s.high.now ≡ V s.greatest) (sym kept) inv.high;
          }
      | else-not-is_valid w ↦
          let valid : c.is_row_valid-is_valid.result ≡ true = w.if-not-is_valid.false in
          let cell : C i ≡ Some (V i) = valid_cell c.args.validity.now V i (V i) (sym c.is_row_valid-is_valid.ensures ∙ valid) refl in
          let value : slice_range c.args.bytes.now c.read_offset-begin.result c.read_offset-stop.result ≡ V i = between_same c.args.bytes.now O i _ _ c.read_offset-begin.ensures c.read_offset-stop.ensures in
          let widened = c.widen_if.ensures.widened valid in
          let low = best_chosen NotAbove upward C V from i c.loop-i.span.least c.widen_if.new.self.least _ _ _ inv.least (omega arith) cell value inv.low widened.least in
          let high = best_chosen (λ x y. NotAbove y x) downward C V from i c.loop-i.span.greatest c.widen_if.new.self.greatest _ _ _ inv.greatest (omega arith) cell value inv.high widened.greatest in
          record {
            nulls = count_more is_none C from i c.loop-i.null_count _ (Some (V i)) (omega arith) cell inv.nulls (w.null_count-is ∙ sym (add-zero _));
            within = omega (arith, w.null_count-is, inv.within);
            span = c.widen_if.ensures.span;
            least = low.0;
            greatest = high.0;
            low = low.1;
            high = high.1;
          }
    ]

pub returns : goal.returns
returns g c =
    let V : ℕ → List ℕ = bytes_between c.args.bytes.now (λ i. offset_of g.T.Offset.width (slice_index_or c.args.offsets.now i [])) in
    let C : ℕ → Option (List ℕ) = cell_at c.args.validity.now V in
    let past : c.loop-i.i ≡ c.args.end = omega arith in
    byte_statistics_given C V c.args.from (c.args.end - c.args.from) c.args.end _ c.loop-i.span.least c.loop-i.span.greatest (omega arith) (c.loop-i.invariant.nulls ∙ ap (λ i. nulls_from C c.args.from (i - c.args.from)) past)
    (subst (λ i. IsBestAt NotAbove C V c.args.from i c.loop-i.span.least) past c.loop-i.invariant.least)
    (subst (λ i. IsBestAt (λ x y. NotAbove y x) C V c.args.from i c.loop-i.span.greatest) past c.loop-i.invariant.greatest)
