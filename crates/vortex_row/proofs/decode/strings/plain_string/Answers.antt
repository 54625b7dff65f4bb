-- The first byte that is 0 or 1 is the end, and those before it stand for themselves.
use Rattle.std.proofs.Common.{arith, get_or}
use Rattle.vortex_row.proofs.StringSteps.{not_special, plain-found}
use Rattle.vortex_row.proofs.decode.strings.plain_string.Goals as goal

pub returns-then-bytes-end-eq-END : goal.returns-then-bytes-end-eq-END
returns-then-bytes-end-eq-END c =
    let first = c.in_ok-end.ensures in
    plain-found c.args.bytes.now _ c.in_ok-end.end (λ k. (c.type_inv.bytes k).fits) first.0.high
    (λ k less. not_special (get_or c.args.bytes.now k 0) (first.0.before k (omega arith) less)) c.if-bytes-end-eq-END.true c.bytes_to.ensures
