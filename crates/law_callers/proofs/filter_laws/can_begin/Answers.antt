-- The test for a prefix of the filter that is made.
use Rattle.std.proofs.Common.{map}
use Rattle.vortex_statistics.specs.Statistics.{known}
use Rattle.law_callers.proofs.FilterSteps.{beginning}
use Rattle.law_callers.proofs.filter_laws.can_begin.Goals as goal

pub returns : goal.returns
returns c = beginning c.prefixes_are_exact.ensures (map known c.args.statistics.now) c.args.column c.args.prefix c.may_match-can_begin.result c.may_match-can_begin.ensures.value
