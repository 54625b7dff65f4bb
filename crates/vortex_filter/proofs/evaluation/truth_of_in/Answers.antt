use Rattle.std.proofs.Common.{ap, sym, refl, ◌∙◌, arith}
use Rattle.vortex_cells.specs.Cells.{cell_of}
use Rattle.vortex_filter.specs.declared.operator.CompareOperator.TheVariants.{Eq}
use Rattle.vortex_filter.specs.declared.truth.Truth.TheVariants.{False, True}
use Rattle.vortex_filter.specs.Formula.{compare_truth, lent_cell}
use Rattle.vortex_filter.specs.Truths.{truth_or}
use Rattle.vortex_filter.proofs.Loops.{stuck_in}
use Rattle.vortex_filter.proofs.evaluation.truth_of_in.Goals as goal

pub returns-in-True : goal.returns-in-True
returns-in-True c =
    let x = lent_cell c.args.cell in
    stuck_in (λ t l. truth_or t (compare_truth Eq x l)) True (λ l. refl) False c.args.literals.now c.loop-literal.literal-index c.literal-item.result (omega arith) c.literal-item.is
    (ap (λ t. truth_or t (compare_truth Eq x (cell_of c.literal-item.result))) (sym c.loop-literal.invariant)
    ∙ ap (λ t. truth_or c.loop-literal.any t) (sym c.truth_of_comparison.ensures) ∙ sym c.or-any.ensures ∙ c.in-True.is)
