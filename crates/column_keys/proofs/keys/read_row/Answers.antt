-- What the key of a row decodes to, or where it is none.
use Rattle.std.proofs.Common.{ap, arith}
use Rattle.std.specs.Prelude.{Err}
use Rattle.column_keys.proofs.CellSteps.{row-found}
use Rattle.column_keys.proofs.keys.read_row.Goals as goal

pub overflow_add-result : goal.overflow_add-result
overflow_add-result c =
    let bad = (c.in-Err-BadKey.ensures.bad c.in-Err-BadKey.bad (ap Err c.in-Err-BadKey.field-0-is)).within in
    omega (arith, c.in_ok-key.ensures.2)

pub returns-clause-cells : goal.returns-clause-cells
returns-clause-cells c =
    row-found c.args.keys.now c.args.row c.in_ok-key.key.now c.in-Ok.decoded.0.items c.in-Ok.decoded.1 c.in_ok-key.ensures.0 c.in_ok-key.ensures.1 c.in-Ok.ensures.decoded (λ l. absurd (omega (arith, c.if-taken-key.false, l)))
