-- The outcomes of the filter that is made.
use Rattle.std.proofs.Common.{map}
use Rattle.vortex_statistics.specs.Statistics.{known}
use Rattle.law_callers.proofs.FilterSteps.{exact_outcome, outcome_of}
use Rattle.law_callers.proofs.filter_laws.can_compare.Goals as goal

pub returns : goal.returns
returns c = record {
  value = outcome_of (map known c.args.statistics.now) c.args.column c.args.operator c.args.literal c.args.truth c.outcomes_of-outcomes.result c.allows.result c.outcomes_of-outcomes.ensures.value c.allows.ensures;
  exact = exact_outcome c.comparisons_are_exact.ensures (map known c.args.statistics.now) c.args.column c.args.operator c.args.literal c.args.truth c.outcomes_of-outcomes.result c.allows.result c.outcomes_of-outcomes.ensures.value
      c.allows.ensures;
}
