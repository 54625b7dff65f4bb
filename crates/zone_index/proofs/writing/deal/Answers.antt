-- A piece more, the first error, and nothing but pieces.
use Rattle.std.proofs.Common.{ℕ, arith}
use Rattle.std.proofs.lemmas.Result.{err_from_is_err_and}
use Rattle.zone_index.proofs.WriteSteps.{append}
use Rattle.zone_index.proofs.ReadSteps.{dealt_begins, dealt_done, dealt_fails, dealt_more, dealt_trails}
use Rattle.std.specs.Global.{Global}
use Rattle.std.proofs.Common.{Vec}
use Rattle.zone_index.proofs.BlockLaws.{dealt_takes}
use Rattle.zone_index.proofs.writing.deal.Goals as goal

pub loop-block-init : goal.loop-block-init
loop-block-init c = dealt_begins (λ (b : Vec ℕ Global). b.items) append c.args.blocks.now c.args.bytes.now

pub returns-in_err-piece-clause-exact : goal.returns-in_err-piece-clause-exact
returns-in_err-piece-clause-exact c =
    let p = err_from_is_err_and c.from_residual.result c.from_residual.ensures.1 in
    rw (p.1, p.2) (dealt_fails (λ (b : Vec ℕ Global). b.items) append c.args.blocks.now c.loop-block.blocks c.args.bytes.now c.loop-block.rest.now c.loop-block.block-index c.in_err-piece.field-0.0 c.block-item.result (omega (arith, c.loop-block-test.true, c.loop-block.auto.blocks)) c.in_err-piece.ensures.read c.loop-block.invariant)

pub loop-block-preserved : goal.loop-block-preserved
loop-block-preserved c =
    dealt_more (λ (b : Vec ℕ Global). b.items) append c.args.blocks.now c.loop-block.blocks c.args.bytes.now c.loop-block.rest.now c.in_ok-piece.piece.now c.in_ok-piece.after.now c.loop-block.block-index _ c.block-item.result (omega (arith, c.loop-block-test.true, c.loop-block.auto.blocks)) c.in_ok-piece.ensures.read
    c.in_ok-extend_from_slice.ensures.items c.loop-block.invariant

pub returns-then-is_empty-clause-exact : goal.returns-then-is_empty-clause-exact
returns-then-is_empty-clause-exact c = dealt_done (λ (b : Vec ℕ Global). b.items) append c.args.blocks.now c.loop-block.blocks c.args.bytes.now c.loop-block.rest.now c.loop-block.block-index c.is_empty.result (omega (arith, c.loop-block-test.false, c.loop-block.auto.blocks)) c.is_empty.ensures c.if-is_empty.true c.loop-block.invariant

pub returns-then-is_empty-clause-dealt : goal.returns-then-is_empty-clause-dealt
returns-then-is_empty-clause-dealt c =
    dealt_takes append _ c.args.bytes.now _ (λ i. omega (arith, c.type_inv.bytes i))
    (dealt_done (λ (b : Vec ℕ Global). b.items) append c.args.blocks.now c.loop-block.blocks c.args.bytes.now c.loop-block.rest.now c.loop-block.block-index c.is_empty.result (omega (arith, c.loop-block-test.false, c.loop-block.auto.blocks)) c.is_empty.ensures c.if-is_empty.true c.loop-block.invariant)

pub returns-else-is_empty-clause-exact : goal.returns-else-is_empty-clause-exact
returns-else-is_empty-clause-exact c = dealt_trails (λ (b : Vec ℕ Global). b.items) append c.args.blocks.now c.loop-block.blocks c.args.bytes.now c.loop-block.rest.now c.loop-block.block-index c.is_empty.result (omega (arith, c.loop-block-test.false, c.loop-block.auto.blocks)) c.is_empty.ensures c.if-is_empty.false c.loop-block.invariant
