-- One column more, and the first that is not named.
use Rattle.std.proofs.Common.{arith}
use Rattle.vortex_c.proofs.SqlSteps.{columns-refused, named-all, named-before-more}
use Rattle.vortex_c.proofs.sql.check_columns.Goals as goal

pub loop-place-preserved : goal.loop-place-preserved
loop-place-preserved c = named-before-more c.args.columns.now c.loop-place.place _ c.loop-place-test.true c.loop-place.invariant c.in_ok-kind_and_name.ensures.sound

pub returns-in_err-kind_and_name-clause-refused : goal.returns-in_err-kind_and_name-clause-refused
returns-in_err-kind_and_name-clause-refused c =
    columns-refused c.args.columns.now c.loop-place.place _ _ _ c.from_residual.ensures c.loop-place-test.true c.loop-place.invariant c.in_err-kind_and_name.ensures.refused

pub returns-clause-named : goal.returns-clause-named
returns-clause-named c = named-all c.args.columns.now c.loop-place.place (omega arith) c.loop-place.invariant
