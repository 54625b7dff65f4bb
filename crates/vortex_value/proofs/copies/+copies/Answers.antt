-- A copied tuple is one part more.
use Rattle.vortex_value.proofs.CopySteps.{adds_tuple}
use Rattle.vortex_value.proofs.copies.+copies.Goals as goal

pub push_tuple-returns : goal.push_tuple-returns
push_tuple-returns t c =
    let pushed = c.push_reserved.ensures in
    (adds_tuple c.args.copies.now.items c.push_reserved.new.self.items c.args.values.now c.in_ok-parts.parts c.in_ok-parts.ensures pushed.items, pushed.len, pushed.capacity)
