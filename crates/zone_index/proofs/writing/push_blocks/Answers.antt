-- A block more, and all of them.
use Rattle.std.proofs.Common.{◌++◌, ◌<◌, ◌^◌, ℕ, List, Vec, ◌∙◌, ap, length, map, rules, subst}
use Rattle.std.specs.Global.{Global}
use Rattle.std.specs.List.{flat_map, AllByRecursion}
use Rattle.zone_index.specs.Encoding.{block_encoding, block_of}
use Rattle.zone_index.proofs.WriteSteps.{all_more, all_taken, encoding_more, taken_more, told_more}
use Rattle.zone_index.proofs.writing.push_blocks.Goals as goal

pub loop-block-preserved : goal.loop-block-preserved
loop-block-preserved c =
    let view : Vec ℕ Global → List ℕ = λ (b : Vec ℕ Global). b.items in
    let more = taken_more view c.args.blocks.now c.loop-block.block-index c.block-item.result (search rules) c.block-item.is in
    (encoding_more block_encoding c.args.output.now.items _ _ _ _ (block_of c.block-item.result.items) (told_more _ _ _ more) c.loop-block.invariant.0 (c.in_ok-push_block.ensures.pushed ∙ ap (λ (l : List ℕ). c.loop-block.output.items ++ block_encoding (block_of l)) c.deref.ensures.value), all_more (λ b. length b < 2 ^ 64) _ _ c.block-item.result.items more c.loop-block.invariant.1 (subst (λ (l : List ℕ). length l < 2 ^ 64) c.deref.ensures.value c.in_ok-push_block.ensures.fits))

pub returns-clause-pushed : goal.returns-clause-pushed
returns-clause-pushed c =
    let view : Vec ℕ Global → List ℕ = λ (b : Vec ℕ Global). b.items in
    c.loop-block.invariant.0 ∙ ap (λ (bs : List (List ℕ)). c.args.output.now.items ++ flat_map block_encoding (map block_of bs)) (all_taken view c.args.blocks.now c.loop-block.block-index (search rules))

pub returns-clause-fits : goal.returns-clause-fits
returns-clause-fits c =
    let view : Vec ℕ Global → List ℕ = λ (b : Vec ℕ Global). b.items in
    subst (AllByRecursion (λ b. length b < 2 ^ 64)) (all_taken view c.args.blocks.now c.loop-block.block-index (search rules)) c.loop-block.invariant.1
