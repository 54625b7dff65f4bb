use Rattle.std.proofs.Common.{arith}
use Rattle.vortex_c.proofs.Truncations.{no_upper_made, upper_made}
use Rattle.vortex_c.proofs.bounds.upper_of_bytes.Goals as goal

pub returns-in-Some-clause-given : goal.returns-in-Some-clause-given
returns-in-Some-clause-given c =
    upper_made c.args.value.now c.in_ok-beginning.beginning c.args.max_length c.in-Some.bound
    (omega (arith, c.if-value-max_length.false)) c.in_ok-beginning.ensures.given (rw c.in-Some.is at c.in_ok-bound.ensures.given)

pub returns-in-None-clause-given : goal.returns-in-None-clause-given
returns-in-None-clause-given c =
    no_upper_made c.args.value.now c.in_ok-beginning.beginning c.args.max_length
    (omega (arith, c.if-value-max_length.false)) c.in_ok-beginning.ensures.given (rw c.in-None.is at c.in_ok-bound.ensures.given)
