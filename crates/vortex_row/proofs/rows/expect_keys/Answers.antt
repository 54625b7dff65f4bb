-- A value more has a key.
use Rattle.vortex_value.specs.Values.Refs.{ref_content, ref_type}
use Rattle.vortex_row.specs.Typed.{HasKey}
use Rattle.vortex_row.proofs.TypedSteps.{all-at, all-end, contents-untyped}
use Rattle.vortex_row.proofs.rows.expect_keys.Goals as goal

pub loop-value-preserved : goal.loop-value-preserved
loop-value-preserved c = λ rest. c.loop-value.invariant (all-at (λ x. HasKey (ref_type x) (ref_content x)) c.loop-value.value-index c.args.values.now c.value-item.result c.loop-value-test.true c.value-item.is c.in_ok-expect_key.ensures.keyed rest)

pub returns-clause-untyped : goal.returns-clause-untyped
returns-clause-untyped c = contents-untyped c.args.values.now (c.loop-value.invariant (all-end (λ x. HasKey (ref_type x) (ref_content x)) c.loop-value.value-index c.args.values.now c.loop-value-test.false))
