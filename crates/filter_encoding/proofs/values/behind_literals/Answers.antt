-- One literal more.
use Rattle.std.proofs.Common.{arith, map}
use Rattle.vortex_cells.specs.Cells.{cell_of}
use Rattle.filter_encoding.proofs.NoValueLaws.{walked_all, walked_none, walked_on, walked_refused}
use Rattle.filter_encoding.proofs.values.behind_literals.Goals as goal

pub loop-literal-init : goal.loop-literal-init
loop-literal-init c = walked_none c.args.offset (map cell_of c.args.literals.now) (omega arith)

pub loop-literal-preserved : goal.loop-literal-preserved
loop-literal-preserved c =
    walked_on c.args.literals.now c.loop-literal.literal-index c.literal-item.result c.args.offset c.loop-literal.end c.in_ok-end.end c.loop-literal-test.true c.literal-item.is c.loop-literal.invariant c.in_ok-end.ensures

pub returns-in_err-end : goal.returns-in_err-end
returns-in_err-end c =
    walked_refused c.args.literals.now c.loop-literal.literal-index c.literal-item.result c.args.offset c.loop-literal.end _ _ c.from_residual.result _ c.from_residual.ensures c.loop-literal-test.true c.literal-item.is c.loop-literal.invariant c.in_err-end.ensures

pub returns : goal.returns
returns c = walked_all c.args.literals.now c.loop-literal.literal-index c.args.offset c.loop-literal.end c.loop-literal-test.false c.loop-literal.invariant
