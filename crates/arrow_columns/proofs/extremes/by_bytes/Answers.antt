use Rattle.std.proofs.Common.{[], ◌≡◌, ◌∙◌, ◌==◌, ◌+◌, ◌-◌, ◌*◌, Bool, None, Option, Some, ap, arith, cond, refl, ℕ, ℤ, slice_index, slice_index_or, subst, sym}
use Rattle.std.proofs.lemmas.List.{get_or_read}
use Rattle.std.proofs.lemmas.Nat.Bits.{shr_and_one}
use Rattle.std.specs.Int.{bit_at, int_max, int_min}
use Rattle.std.specs.Option.{is_none}
use Rattle.arrow_columns.specs.Cells.{cell_at}
use Rattle.arrow_columns.specs.Integers.{number_of}
use Rattle.arrow_columns.specs.Running.{IsGreatestBefore, IsLeastBefore, nulls_from}
use Rattle.arrow_columns.proofs.BitCounts.{cell_in_byte, zeros_below, zeros_counted, zeros_step}
use Rattle.arrow_columns.proofs.CellLists.{count_more}
use Rattle.arrow_columns.proofs.RowSteps.{greatest_chosen, least_chosen, of_choice, still_high, still_low}
use Rattle.arrow_columns.proofs.extremes.by_bytes.Goals as goal

pub loop-j-preserved : goal.loop-j-preserved
loop-j-preserved g c =
    let N : g.row.T.Denot → ℤ = g.T.Item.number in
    let V : ℕ → ℤ = λ i. number_of g.T.Item.kind (slice_index_or c.args.items.now i []) in
    let C : ℕ → Option ℤ = cell_at c.args.validity.now V in
    let b : ℕ = c.loop-b.b in
    let j : ℕ = c.loop-j.j in
    let i : ℕ = 8 * b + j in
    let byte : ℕ = slice_index c.args.validity.now b in
    let bit : Bool = bit_at byte j == 1 in
    let x : ℤ = N c.of_bytes-value.result in
    let value : x ≡ V i =
    c.of_bytes-value.ensures ∙ ap (number_of g.T.Item.kind) (get_or_read c.args.items.now _ _ (omega arith) c.index-items-b.is []) in
    let cell : C i ≡ cond bit (Some x) None = cell_in_byte c.args.validity.now V b j i x (omega arith) (omega arith) refl value in
    let low : N c.one_of.result ≡ cond bit x (N c.args.gathered.least) =
    ap N (c.one_of.ensures ∙ ap (λ t. cond (t == 1) c.of_bytes-value.result c.args.gathered.least) (shr_and_one byte j)) ∙ of_choice N bit c.of_bytes-value.result c.args.gathered.least in
    let high : N c.one_of-in-loop-j.result ≡ cond bit x (N c.args.gathered.greatest) =
    ap N (c.one_of-in-loop-j.ensures ∙ ap (λ t. cond (t == 1) c.of_bytes-value.result c.args.gathered.greatest) (shr_and_one byte j)) ∙ of_choice N bit c.of_bytes-value.result c.args.gathered.greatest in
    let next : i + 1 ≡ 8 * b + (j + 1) = omega arith in
    record {
      nulls = count_more is_none C c.args.from i (c.loop-b.null_count + zeros_below byte j) (c.loop-b.null_count + zeros_below byte (j + 1)) _ (omega arith) cell c.loop-j.invariant.nulls (zeros_step c.loop-b.null_count byte j x)
          ∙ ap (λ k. nulls_from C c.args.from (k - c.args.from)) next;
      least = subst (λ k. IsLeastBefore C c.args.from k (N c.lesser-least.result)) next
          (least_chosen C c.args.from i _ _ x (N c.args.gathered.least) bit c.loop-j.invariant.least (omega arith) c.loop-j.invariant.low cell (c.lesser-least.ensures ∙ ap (int_min (N c.loop-j.least)) low));
      greatest = subst (λ k. IsGreatestBefore C c.args.from k (N c.greater-greatest.result)) next
          (greatest_chosen C c.args.from i _ _ x (N c.args.gathered.greatest) bit c.loop-j.invariant.greatest (omega arith) c.loop-j.invariant.high cell (c.greater-greatest.ensures ∙ ap (int_max (N c.loop-j.greatest)) high));
      low = still_low _ _ _ _ c.lesser-least.ensures c.loop-j.invariant.low;
      high = still_high _ _ _ _ c.greater-greatest.ensures c.loop-j.invariant.high;
    }

pub loop-b-preserved : goal.loop-b-preserved
loop-b-preserved g c =
    let N : g.row.T.Denot → ℤ = g.T.Item.number in
    let V : ℕ → ℤ = λ i. number_of g.T.Item.kind (slice_index_or c.args.items.now i []) in
    let C : ℕ → Option ℤ = cell_at c.args.validity.now V in
    let from : ℕ = c.args.from in
    let b : ℕ = c.loop-b.b in
    let j : ℕ = c.loop-j.j in
    let byte : ℕ = slice_index c.args.validity.now b in
    let past : j ≡ 8 = omega arith in
    let next : 8 * b + j ≡ 8 * (b + 1) = omega arith in
    let counted : c.count_zeros.result ≡ zeros_below byte j =
    c.count_zeros.ensures.value ∙ zeros_counted byte (omega (arith, c.type_inv.validity b)) ∙ ap (zeros_below byte) (sym past) in
    record {
      gathered = record {
        nulls = ap (λ n. c.loop-b.null_count + n) counted ∙ c.loop-j.invariant.nulls ∙ ap (λ i. nulls_from C from (i - from)) next;
        within = omega (arith, c.loop-b.invariant.gathered.within, c.count_zeros.ensures.bound);
        least = subst (λ i. IsLeastBefore C from i (N c.loop-j.least)) next c.loop-j.invariant.least;
        greatest = subst (λ i. IsGreatestBefore C from i (N c.loop-j.greatest)) next c.loop-j.invariant.greatest;
      };
      low = c.loop-j.invariant.low;
      high = c.loop-j.invariant.high;
    }

pub returns : goal.returns
returns g c =
    let N : g.row.T.Denot → ℤ = g.T.Item.number in
    let V : ℕ → ℤ = λ i. number_of g.T.Item.kind (slice_index_or c.args.items.now i []) in
    let C : ℕ → Option ℤ = cell_at c.args.validity.now V in
    let from : ℕ = c.args.from in
    let past : 8 * c.loop-b.b ≡ 8 * c.args.end_byte = omega arith in
    record {
      nulls = c.loop-b.invariant.gathered.nulls ∙ ap (λ i. nulls_from C from (i - from)) past;
      within = omega (arith, c.loop-b.invariant.gathered.within);
      least = subst (λ i. IsLeastBefore C from i (N c.loop-b.least)) past c.loop-b.invariant.gathered.least;
      greatest = subst (λ i. IsGreatestBefore C from i (N c.loop-b.greatest)) past c.loop-b.invariant.gathered.greatest;
    }
