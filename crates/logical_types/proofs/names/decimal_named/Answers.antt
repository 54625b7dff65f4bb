use Rattle.std.proofs.Common.{arith}
use Rattle.logical_types.proofs.NamesBack.{next_precision}
use Rattle.logical_types.proofs.names.decimal_named.Goals as goal

pub loop-precision-init : goal.loop-precision-init
loop-precision-init c = λ d p w. absurd (let h = d.some in omega arith)

pub loop-precision-preserved : goal.loop-precision-preserved
loop-precision-preserved c = next_precision c.args.word.now c.loop-precision.precision c.in-None.ensures.none c.loop-precision.invariant

pub returns-clause-none : goal.returns-clause-none
returns-clause-none c = λ d w. c.loop-precision.invariant d (let h = d.small in omega arith) w
