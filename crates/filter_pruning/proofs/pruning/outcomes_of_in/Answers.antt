use Rattle.std.proofs.Common.{option_map, ap, sym, refl, ◌∙◌, arith}
use Rattle.std.specs.Option.{option_copied}
use Rattle.vortex_cells.specs.Cells.{cell_of}
use Rattle.vortex_statistics.specs.Statistics.{known}
use Rattle.vortex_filter.specs.declared.operator.CompareOperator.TheVariants.{Eq}
use Rattle.vortex_filter.specs.declared.truth.Truth.TheVariants.{False, True}
use Rattle.filter_pruning.specs.OutcomeSets.{only, outcomes_or}
use Rattle.filter_pruning.specs.Outcomes.{compare_outcomes}
use Rattle.vortex_filter.proofs.Loops.{stuck_in}
use Rattle.filter_pruning.proofs.pruning.outcomes_of_in.Goals as goal

pub returns-then-is_settled : goal.returns-then-is_settled
returns-then-is_settled c =
    let x = option_map known (option_copied c.args.statistics) in
    let settled = c.is_settled.ensures.0 c.if-is_settled.true in
    settled ∙ stuck_in (λ o l. outcomes_or o (compare_outcomes x Eq l)) (only True) (λ l. refl) (only False) c.args.literals.now c.loop-literal.literal-index c.literal-item.result (omega arith) c.literal-item.is
    (ap (λ o. outcomes_or o (compare_outcomes x Eq (cell_of c.literal-item.result))) (sym c.loop-literal.invariant)
    ∙ ap (λ o. outcomes_or c.loop-literal.any o) (sym c.outcomes_of_comparison.ensures) ∙ sym c.or-any.ensures ∙ settled)
