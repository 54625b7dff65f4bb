use Rattle.std.proofs.Common.{map}
use Rattle.vortex_statistics.specs.Statistics.{known}
use Rattle.vortex_filter.specs.Formula.{formula}
use Rattle.filter_pruning.proofs.Soundness.{none_match}
use Rattle.filter_pruning.proofs.pruning.may_match.Goals as goal

pub returns-clause-loses_nothing : goal.returns-clause-loses_nothing
returns-clause-loses_nothing c =
    none_match (formula c.args.filter.now) (map known c.args.statistics.now) c.outcomes_of.result c.outcomes_of.ensures.covers
