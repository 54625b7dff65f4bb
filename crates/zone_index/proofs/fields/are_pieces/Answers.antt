-- A piece more, one that cannot be read, and the end.
use Rattle.std.proofs.Common.{arith, ◌∙◌}
use Rattle.zone_index.proofs.PieceSteps.{are_read, fault_of, none_read, reads_fails, reads_last, reads_more}
use Rattle.zone_index.proofs.fields.are_pieces.Goals as goal

pub loop-preserved : goal.loop-preserved
loop-preserved c = reads_more c.args.count c.loop.counter c.args.bytes.now c.loop.rest.now c.in-Ok.field-0-0.now c.in-Ok.after.now c.loop-test.true c.in-Ok.ensures.read c.loop.invariant

pub returns-in-Err-clause-none : goal.returns-in-Err-clause-none
returns-in-Err-clause-none c = λ no.
    let fault = fault_of c.in-Err.field-0 c.loop.rest.now c.in-Err.ensures.memory c.in-Err.ensures.read in
    none_read c.args.count c.args.bytes.now (reads_fails c.args.count c.loop.counter c.args.bytes.now c.loop.rest.now fault.0 c.loop-test.true fault.1 c.loop.invariant)

pub returns-clause-are : goal.returns-clause-are
returns-clause-are c = λ yes.
    are_read c.args.count c.args.bytes.now (λ i. omega (arith, c.type_inv.bytes i)) (reads_last c.args.count c.loop.counter c.args.bytes.now c.loop.rest.now c.is_empty.result (omega (arith, c.loop-test.false)) c.is_empty.ensures c.loop.invariant ∙ yes)

pub returns-clause-none : goal.returns-clause-none
returns-clause-none c = λ no.
    none_read c.args.count c.args.bytes.now (reads_last c.args.count c.loop.counter c.args.bytes.now c.loop.rest.now c.is_empty.result (omega (arith, c.loop-test.false)) c.is_empty.ensures c.loop.invariant ∙ no)
