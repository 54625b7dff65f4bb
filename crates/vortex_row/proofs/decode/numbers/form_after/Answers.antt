-- The encoding is the one of the side of 0 that the first byte says, if a number there has as many bytes.
use Rattle.std.proofs.Common.{◌<◌, ◌^◌, rules}
use Rattle.vortex_row.proofs.NumberForms.{goes-down, goes-up, none-down, none-up}
use Rattle.vortex_row.proofs.decode.numbers.form_after.Goals as goal

pub returns-then-has_width : goal.returns-then-has_width
returns-then-has_width c =
    let one = c.has_width.ensures.some c.if-has_width.true in
    goes-down c.args.ptype c.limits-above.result.0 c.limits-above.result.1 c.args.head c.limits-above.ensures c.if-head-lt-ZERO.true one.0 one.1

pub returns-then-has_width-2 : goal.returns-then-has_width-2
returns-then-has_width-2 c =
    let one = c.has_width-else-head-lt-ZERO.ensures.some c.if-has_width-2.true in
    let fits : c.limits-above.result.0 < 2 ^ 64 = search rules in
    goes-up c.args.ptype c.limits-above.result.0 c.limits-above.result.1 c.args.head c.limits-above.ensures fits c.if-head-lt-ZERO.false one.0 one.1

pub returns-else-has_width : goal.returns-else-has_width
returns-else-has_width c = none-down c.args.ptype c.limits-above.result.0 c.limits-above.result.1 c.args.head c.limits-above.ensures c.if-head-lt-ZERO.true (c.has_width.ensures.none c.if-has_width.false)

pub returns-else-has_width-2 : goal.returns-else-has_width-2
returns-else-has_width-2 c =
    none-up c.args.ptype c.limits-above.result.0 c.limits-above.result.1 c.args.head c.limits-above.ensures c.if-head-lt-ZERO.false (c.has_width-else-head-lt-ZERO.ensures.none c.if-has_width-2.false)
