use Rattle.vortex_array.proofs.GivenEach.{given_more}
use Rattle.vortex_array.proofs.into_scalar.raw_elements.Goals as goal

pub loop-element-preserved : goal.loop-element-preserved
loop-element-preserved g c =
    rw c.in_ok-push.ensures.items
    (given_more g.T.NativeDType.native_type _ _ _ _ _ c.loop-element.invariant.0 c.loop-element.invariant.1 c.in_ok-raw_element.ensures.0 c.in_ok-raw_element.ensures.1)
