-- A record more.
use Rattle.std.proofs.Common.{arith, inl, refl, ap, length}
use Rattle.std.proofs.lemmas.List.{take_rest, length-drop}
use Rattle.zone_index.proofs.TakeMore.{whole_more}
use Rattle.zone_index.proofs.taking.plain_front.Goals as goal

pub loop-count-init : goal.loop-count-init
loop-count-init c = (omega arith, omega arith, inl (refl, refl))

pub loop-count-preserved : goal.loop-count-preserved
loop-count-preserved c = (
  omega (arith, c.in-Some.ensures.within.1, c.loop-count.invariant.0, ap length (take_rest c.args.bytes.now c.loop-count.end), length-drop c.loop-count.end c.args.bytes.now),
  omega arith,
  whole_more c.args.delimiter.byte c.args.bytes.now _ c.loop-count.end c.in-Some.length c.loop-count.count (take_rest c.args.bytes.now c.loop-count.end) c.loop-count.invariant.2 c.in-Some.ensures.ends c.in-Some.ensures.cut,
)
