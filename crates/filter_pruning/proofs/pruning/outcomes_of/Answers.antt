use Rattle.std.proofs.Common.{map, subst, sym}
use Rattle.vortex_statistics.specs.Statistics.{known}
use Rattle.vortex_cells.proofs.CellLaws.{from_below}
use Rattle.filter_pruning.specs.declared.outcomes.Outcomes.{Outcomes}
use Rattle.vortex_filter.specs.Formula.{formula}
use Rattle.filter_pruning.specs.Pruning.{Covers}
use Rattle.filter_pruning.proofs.Soundness.{covered}
use Rattle.filter_pruning.proofs.pruning.outcomes_of.Goals as goal

pub returns-clause-covers : goal.returns-clause-covers
returns-clause-covers c =
    let P : Outcomes → Type 0 = λ o. Covers (formula c.args.filter.now) (map known c.args.statistics.now) o in
    subst P (sym c.possible.ensures)
    (covered (from_below c.order_is_reversed.ensures.contents c.order_is_transitive.ensures.contents) (formula c.args.filter.now) (map known c.args.statistics.now))
