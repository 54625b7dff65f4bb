-- The outcomes, or why there are none, at the depth of the encoding.
use Rattle.std.proofs.Common.{length, subst}
use Rattle.vortex_c.specs.Filters.{AreFilterOutcomes, SaysWhyNoOutcomes}
use Rattle.vortex_c.proofs.filters.doqallin_filter_outcomes.Goals as goal

pub returns-in-Ok-clause-given : goal.returns-in-Ok-clause-given
returns-in-Ok-clause-given c = λ _. subst (λ n. AreFilterOutcomes n c.args.filter.now c.args.statistics.now c.args.offsets.now c.write_zones.new.outcomes) c.encoding_depth.ensures c.in-Ok.ensures.outcomes

pub returns-in-Err-clause-refused : goal.returns-in-Err-clause-refused
returns-in-Err-clause-refused c =
    λ _. subst (λ n. SaysWhyNoOutcomes n c.args.filter.now c.args.statistics.now c.args.offsets.now (length c.args.outcomes.now) c.args.fault.now c.tell_zones.new.fault c.tell_zones.result) c.encoding_depth.ensures
    (c.in-Err.refusal, c.in-Err.ensures.refused, c.tell_zones.ensures.status, c.tell_zones.ensures.fault)
