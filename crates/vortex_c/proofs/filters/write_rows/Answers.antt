-- The filter is read, or its bytes are no encoding.
use Rattle.std.proofs.Common.{ap}
use Rattle.std.specs.Prelude.{Err}
use Rattle.vortex_c.proofs.FilterSteps.{encoding-of, unread}
use Rattle.vortex_c.proofs.filters.write_rows.Goals as goal

pub returns-in-Ok-clause-mask : goal.returns-in-Ok-clause-mask
returns-in-Ok-clause-mask c = c.mask_by.ensures.mask c.args.depth c.args.filter.now (encoding-of c.args.depth c.args.filter.now c.in-Ok.prepared c.in-Ok.ensures.read)

pub returns-in-Ok-clause-refused : goal.returns-in-Ok-clause-refused
returns-in-Ok-clause-refused c = c.mask_by.ensures.refused c.args.depth c.args.filter.now (encoding-of c.args.depth c.args.filter.now c.in-Ok.prepared c.in-Ok.ensures.read)

pub returns-in-Err-clause-refused : goal.returns-in-Err-clause-refused
returns-in-Err-clause-refused c = unread c.args.depth c.args.filter.now c.in-Err.cause c.in-Err.ensures.refused (λ place e. c.in-Err.ensures.bad place (ap Err e)) (λ place e. c.in-Err.ensures.no_value place (ap Err e)) (λ e. c.in-Err.ensures.memory (ap Err e))
