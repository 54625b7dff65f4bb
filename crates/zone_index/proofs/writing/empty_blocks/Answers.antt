-- A block more.
use Rattle.std.proofs.Common.{ℕ, List, Vec}
use Rattle.std.specs.Global.{Global}
use Rattle.zone_index.proofs.WriteSteps.{empties_more, values_push}
use Rattle.zone_index.proofs.writing.empty_blocks.Goals as goal

pub loop-preserved : goal.loop-preserved
loop-preserved c =
    let view : Vec ℕ Global → List ℕ = λ (b : Vec ℕ Global). b.items in
    empties_more c.loop.counter _ _ c.new.result.items (values_push view c.loop.blocks.items c.push.new.self.items c.new.result c.in_ok-push.ensures.items) c.new.ensures.items c.loop.invariant
