use Rattle.std.proofs.Common.{◌≡◌, ◌∙◌, ◌≤◌, ◌*◌, arith}
use Rattle.logical_types.proofs.DecimalsBack.{scaled_none, scaled_step}
use Rattle.logical_types.proofs.decimals.reading.scaled.Goals as goal

pub returns-in-None-clause-value : goal.returns-in-None-clause-value
returns-in-None-clause-value c =
    let above : c.args.limit ≤ c.loop-place.product * 10 = omega (arith, c.in-None.ensures.none) in
    scaled_none c.args.limit c.args.places c.args.value c.loop-place._place c.loop-place.product c.loop-place.invariant.0 c.loop-place-test.true above

pub loop-place-preserved : goal.loop-place-preserved
loop-place-preserved c =
    let e : c.in-Some.next ≡ c.loop-place.product * 10 = omega (arith, c.in-Some.ensures.some.0) in
    (e ∙ scaled_step c.args.value c.loop-place._place c.loop-place.product c.loop-place.invariant.0, c.in-Some.ensures.some.1)
