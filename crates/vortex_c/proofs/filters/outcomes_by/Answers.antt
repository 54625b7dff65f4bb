-- The outcomes of the filter, or why there are none.
use Rattle.std.proofs.Common.{length}
use Rattle.vortex_c.proofs.FilterSteps.{no-outcomes, outcomes-given}
use Rattle.vortex_c.proofs.filters.outcomes_by.Goals as goal

pub returns-in-Ok-clause-outcomes : goal.returns-in-Ok-clause-outcomes
returns-in-Ok-clause-outcomes c =
    λ n bytes is_encoding. outcomes-given n bytes c.args.statistics.now c.args.offsets.now c.outcomes_of_zones.new.outcomes c.args.filter.now c.deref.result.now c.deref.ensures.value is_encoding c.in-Ok.ensures.outcomes

pub returns-in-Err-clause-refused : goal.returns-in-Err-clause-refused
returns-in-Err-clause-refused c =
    λ n bytes is_encoding. no-outcomes n bytes c.args.statistics.now c.args.offsets.now (length c.args.outcomes.now) c.args.filter.now c.deref.result.now c.in-Err.cause c.deref.ensures.value is_encoding c.in-Err.ensures.refused
