-- A block more, and all of them.
use Rattle.std.proofs.Common.{◌++◌, ℕ, List, Vec, ◌∙◌, ap, rules}
use Rattle.std.specs.Global.{Global}
use Rattle.std.specs.List.{concat}
use Rattle.zone_index.proofs.WriteSteps.{all_taken, joined_more, taken_more}
use Rattle.zone_index.proofs.writing.push_all.Goals as goal

pub loop-block-preserved : goal.loop-block-preserved
loop-block-preserved c =
    let view : Vec ℕ Global → List ℕ = λ (b : Vec ℕ Global). b.items in
    let more = taken_more view c.args.blocks.now c.loop-block.block-index c.block-item.result (search rules) c.block-item.is in
    joined_more c.args.output.now.items _ _ _ _ c.block-item.result.items more c.loop-block.invariant (c.in_ok-extend_from_slice.ensures.items ∙ ap (λ (l : List ℕ). c.loop-block.output.items ++ l) c.deref.ensures.value)

pub returns : goal.returns
returns c =
    let view : Vec ℕ Global → List ℕ = λ (b : Vec ℕ Global). b.items in
    c.loop-block.invariant ∙ ap (λ (bs : List (List ℕ)). c.args.output.now.items ++ concat bs) (all_taken view c.args.blocks.now c.loop-block.block-index (search rules))
