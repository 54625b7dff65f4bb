-- A variant's child in one value refuses all.
use Rattle.vortex_row.proofs.TypedSteps.{typed-passed_on}
use Rattle.vortex_row.proofs.rows.expect_all_untyped.Goals as goal

pub returns-in_err-expect_untyped-clause-refused : goal.returns-in_err-expect_untyped-clause-refused
returns-in_err-expect_untyped-clause-refused c =
    typed-passed_on c.loop-value.value-index c.args.values.now c.value-item.result c.from_residual.result _ c.from_residual.ensures c.loop-value-test.true c.value-item.is c.in_err-expect_untyped.ensures.refused
