-- The filter is read, or its bytes are no encoding.
use Rattle.std.proofs.Common.{ap}
use Rattle.std.specs.Prelude.{Err}
use Rattle.vortex_c.proofs.FilterSteps.{encoding-of, unread}
use Rattle.vortex_c.proofs.filters.write_zones.Goals as goal

pub returns-in-Ok-clause-outcomes : goal.returns-in-Ok-clause-outcomes
returns-in-Ok-clause-outcomes c = c.outcomes_by.ensures.outcomes c.args.depth c.args.filter.now (encoding-of c.args.depth c.args.filter.now c.in-Ok.prepared c.in-Ok.ensures.read)

pub returns-in-Ok-clause-refused : goal.returns-in-Ok-clause-refused
returns-in-Ok-clause-refused c = c.outcomes_by.ensures.refused c.args.depth c.args.filter.now (encoding-of c.args.depth c.args.filter.now c.in-Ok.prepared c.in-Ok.ensures.read)

pub returns-in-Err-clause-refused : goal.returns-in-Err-clause-refused
returns-in-Err-clause-refused c = unread c.args.depth c.args.filter.now c.in-Err.cause c.in-Err.ensures.refused (λ place e. c.in-Err.ensures.bad place (ap Err e)) (λ place e. c.in-Err.ensures.no_value place (ap Err e)) (λ e. c.in-Err.ensures.memory (ap Err e))
