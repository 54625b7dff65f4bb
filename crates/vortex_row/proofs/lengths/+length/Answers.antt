-- The loop counts a part more.
use Rattle.vortex_value.proofs.SizeSteps.{counted}
use Rattle.vortex_row.proofs.LengthSteps.{parts_length-at}
use Rattle.vortex_row.proofs.lengths.+length.Goals as goal

pub parts_length-loop-part-preserved : goal.parts_length-loop-part-preserved
parts_length-loop-part-preserved t c =
    let left = rw (parts_length-at c.loop-part.part-index c.args.parts.now c.part-item.result c.loop-part-test.true c.part-item.is) at c.loop-part.invariant.1 in
    rw (c.saturating_add-total.ensures, c.length.ensures, c.as_ref.ensures.value) (counted _ _ _ _ left)
