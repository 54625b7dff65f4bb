use Rattle.std.proofs.Common.{Some, None, ap, sym, ◌∙◌}
use Rattle.vortex_cells.specs.Cells.{cell_of}
use Rattle.vortex_filter.specs.Truths.{truth_of}
use Rattle.vortex_filter.proofs.PrefixSteps.{begins_when}
use Rattle.vortex_filter.proofs.prefix.truth_of_prefix.Goals as goal

pub returns-in-Some-order_of_prefix : goal.returns-in-Some-order_of_prefix
returns-in-Some-order_of_prefix c =
    c.of.ensures ∙ ap truth_of c.is_eq.ensures
    ∙ sym (begins_when c.args.cell c.in-Some.value (cell_of c.args.prefix.now) (Some c.in-Some-order_of_prefix.order) c.in-Some.is (sym c.in-Some-order_of_prefix.is ∙ c.order_of_prefix.ensures))

pub returns-in-None : goal.returns-in-None
returns-in-None c =
    sym (begins_when c.args.cell c.in-Some.value (cell_of c.args.prefix.now) None c.in-Some.is (sym c.in-None.is ∙ c.order_of_prefix.ensures))
