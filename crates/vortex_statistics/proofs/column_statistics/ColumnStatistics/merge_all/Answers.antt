use Rattle.std.proofs.Common.{◌≡◌, ◌+◌, ◌≤◌, ◌^◌, List, [], ◌∷◌, length, fold, map, refl, sym, ap, subst, ◌∙◌, arith}
use Rattle.std.specs.List.{All}
use Rattle.std.proofs.lemmas.List.Elements.{All-head, All-tail}
use Rattle.std.proofs.lemmas.List.Sums.{sum_by-cons}
use Rattle.std.proofs.lemmas.Result.{err_from_is_err_and}
use Rattle.vortex_statistics.specs.Merging.{AreRightForAll, merged, nothing, rows_of}
use Rattle.vortex_statistics.specs.Statistics.{HasValidBounds, Known, known}
use Rattle.vortex_statistics.specs.declared.column_statistics.ColumnStatistics.{ColumnStatistics}
use Rattle.vortex_statistics.specs.declared.error.StatisticsError.TheVariants.{TooManyRows}
use Rattle.vortex_statistics.proofs.MergeLaws.{all_right}
use Rattle.vortex_statistics.proofs.column_statistics.ColumnStatistics.merge_all.Goals as goal

no_items : (xs : List ColumnStatistics) → length xs ≡ 0 → xs ≡ []
no_items [] e = refl
no_items (x ∷ xs) e = absurd (omega (arith, e))

rows_of-cons : (s : ColumnStatistics) (ss : List ColumnStatistics) → rows_of (s ∷ ss) ≡ s.row_count + rows_of ss
rows_of-cons s ss = sum_by-cons (λ t. t.row_count) s ss

pub loop-piece-init : goal.loop-piece-init
loop-piece-init c =
    let items = c.into_iter-piece-iterator.ensures.into_iter_gives.0 in
    let first : known c.empty-total.result ≡ nothing = ap known c.empty-total.ensures.value in
    let none : c.empty-total.result.row_count ≡ 0 = ap (λ s. s.row_count) first in
    let all : rows_of c.into_iter-piece-iterator.result.rest.items ≡ rows_of c.args.pieces.items = ap rows_of items in
    record {
      merged = ap (λ s. fold merged s (map known c.into_iter-piece-iterator.result.rest.items)) first ∙ ap (λ xs. fold merged nothing (map known xs)) items;
      rows = omega (arith, none, all);
      fits = omega (arith, none);
      valid = λ all. (subst HasValidBounds (sym c.empty-total.ensures.value) (record { lower = tt; upper = tt }), subst (All HasValidBounds) (sym items) all);
    }

pub loop-piece-preserved : goal.loop-piece-preserved
loop-piece-preserved c =
    let items = c.in-Some.ensures.steps.0 in
    let value : known c.in_ok-total.total ≡ merged (known c.loop-piece.total) (known c.in-Some.piece) = c.in_ok-total.ensures.value in
    let counted : c.in_ok-total.total.row_count ≡ c.loop-piece.total.row_count + c.in-Some.piece.row_count = ap (λ s. s.row_count) value in
    let left : rows_of c.loop-piece.piece-iterator.rest.items ≡ c.in-Some.piece.row_count + rows_of c.next.new.self.rest.items = ap rows_of items ∙ rows_of-cons c.in-Some.piece c.next.new.self.rest.items in
    record {
      merged = ap (λ s. fold merged s (map known c.next.new.self.rest.items)) value ∙ ap (λ xs. fold merged (known c.loop-piece.total) (map known xs)) (sym items) ∙ c.loop-piece.invariant.merged;
      rows = omega (arith, counted, left, c.loop-piece.invariant.rows);
      fits = omega (arith, counted, c.in_ok-total.ensures.fits);
      valid = λ all.
          let before = c.loop-piece.invariant.valid all in
          let next : All HasValidBounds (c.in-Some.piece ∷ c.next.new.self.rest.items) = subst (All HasValidBounds) items before.1 in
          (c.in_ok-total.ensures.valid before.0 (All-head HasValidBounds c.in-Some.piece c.next.new.self.rest.items next), All-tail HasValidBounds c.in-Some.piece c.next.new.self.rest.items next);
    }

pub returns-clause-value : goal.returns-clause-value
returns-clause-value c =
    let none : c.loop-piece.piece-iterator.rest.items ≡ [] = no_items c.loop-piece.piece-iterator.rest.items (sym c.loop-piece.piece-iterator.rest.ok.0 ∙ c.in-None.ensures.steps.0) in
    ap (λ xs. fold merged (known c.loop-piece.total) (map known xs)) (sym none) ∙ c.loop-piece.invariant.merged

pub returns-clause-right : goal.returns-clause-right
returns-clause-right c =
    let P : Known → Type 0 = λ s. AreRightForAll (map known c.args.pieces.items) s in
    subst P (sym (returns-clause-value c)) (all_right c.order_is_reversed.ensures.contents c.order_is_transitive.ensures.contents (map known c.args.pieces.items))

pub returns-clause-fits : goal.returns-clause-fits
returns-clause-fits c =
    let none : c.loop-piece.piece-iterator.rest.items ≡ [] = no_items c.loop-piece.piece-iterator.rest.items (sym c.loop-piece.piece-iterator.rest.ok.0 ∙ c.in-None.ensures.steps.0) in
    let left : rows_of c.loop-piece.piece-iterator.rest.items ≡ 0 = ap rows_of none in
    omega (arith, left, c.loop-piece.invariant.rows, c.loop-piece.invariant.fits)

pub returns-in_err-total-clause-refused : goal.returns-in_err-total-clause-refused
returns-in_err-total-clause-refused c =
    let left : rows_of c.loop-piece.piece-iterator.rest.items ≡ c.in-Some.piece.row_count + rows_of c.next.new.self.rest.items = ap rows_of c.in-Some.ensures.steps.0 ∙ rows_of-cons c.in-Some.piece c.next.new.self.rest.items in
    let many : 2 ^ 64 ≤ c.loop-piece.total.row_count + c.in-Some.piece.row_count = c.in_err-total.ensures.refused.1 in
    let all : 2 ^ 64 ≤ rows_of c.args.pieces.items = omega (arith, left, many, c.loop-piece.invariant.rows) in
    let why : (c.in_err-total.field-0.0 ≡ TooManyRows) × (2 ^ 64 ≤ rows_of c.args.pieces.items) = (c.in_err-total.ensures.refused.0, all) in
    let p = err_from_is_err_and c.from_residual.result c.from_residual.ensures.1 in rw (p.1, p.2) why

pub returns-clause-valid : goal.returns-clause-valid
returns-clause-valid c = λ all. (c.loop-piece.invariant.valid all).0
