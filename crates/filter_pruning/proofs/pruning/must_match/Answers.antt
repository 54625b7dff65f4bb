use Rattle.std.proofs.Common.{map, sym, ◌∙◌}
use Rattle.vortex_statistics.specs.Statistics.{known}
use Rattle.vortex_filter.specs.Formula.{formula}
use Rattle.filter_pruning.proofs.Soundness.{all_match}
use Rattle.filter_pruning.proofs.pruning.must_match.Goals as goal

pub returns-clause-takes_all : goal.returns-clause-takes_all
returns-clause-takes_all c = λ h.
    all_match (formula c.args.filter.now) (map known c.args.statistics.now) c.outcomes_of.result c.outcomes_of.ensures.covers (sym c.is_only_true.ensures ∙ h)
