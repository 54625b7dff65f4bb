use Rattle.std.proofs.Common.{◌∙◌, ◌<◌, List, ap, arith, refl, subst, sym, ℕ}
use Rattle.arrow_columns.proofs.ByteOrder.{downward, upward}
use Rattle.vortex_bounds.specs.Strings.{NotAbove}
use Rattle.vortex_c.specs.ColumnBounds.{value_at}
use Rattle.vortex_c.proofs.ColumnOrder.{best_so_far, only_value, only_value_back}
use Rattle.vortex_c.proofs.column_bounds.find_extremes.Goals as goal

pub loop-k-init : goal.loop-k-init
loop-k-init c =
    let V : ℕ → List ℕ = value_at c.args.bytes.now c.args.offsets.now in
    let least = c.of-span.ensures.rows.0 in
    let greatest = c.of-span.ensures.rows.1 in
    record {
      span = c.of-span.ensures.span;
      least_is = omega (arith, least);
      greatest_is = omega (arith, greatest);
      low = c.of-span.ensures.values.0 ∙ c.value_of.ensures ∙ ap V (sym least);
      high = c.of-span.ensures.values.1 ∙ c.value_of.ensures ∙ ap V (sym greatest);
      least_of = subst (λ i. (j : ℕ) → j < 1 → NotAbove (V i) (V j)) (sym least) (only_value V);
      greatest_of = subst (λ i. (j : ℕ) → j < 1 → NotAbove (V j) (V i)) (sym greatest) (only_value_back V);
    }

pub loop-k-preserved : goal.loop-k-preserved
loop-k-preserved c =
    let V : ℕ → List ℕ = value_at c.args.bytes.now c.args.offsets.now in
    let inv = c.loop-k.invariant in
    let low = best_so_far NotAbove upward V c.loop-k.k c.loop-k.span.least c.widen.new.self.least _ _ _ refl inv.low c.widen.ensures.widened.least inv.least_is inv.least_of in
    let high = best_so_far (λ x y. NotAbove y x) downward V c.loop-k.k c.loop-k.span.greatest c.widen.new.self.greatest _ _ _ refl inv.high c.widen.ensures.widened.greatest inv.greatest_is inv.greatest_of in
    record {
      span = c.widen.ensures.span;
      least_is = low.0;
      greatest_is = high.0;
      low = low.1;
      high = high.1;
      least_of = low.2;
      greatest_of = high.2;
    }

pub returns-clause-least : goal.returns-clause-least
returns-clause-least c =
    let inv = c.loop-k.invariant in (
      omega (arith, inv.least_is),
      λ j l. inv.least_of j (omega (arith, l)),
    )

pub returns-clause-greatest : goal.returns-clause-greatest
returns-clause-greatest c =
    let inv = c.loop-k.invariant in (
      omega (arith, inv.greatest_is),
      λ j l. inv.greatest_of j (omega (arith, l)),
    )
