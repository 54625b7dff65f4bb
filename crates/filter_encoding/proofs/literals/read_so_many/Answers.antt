-- One more is read, or is none.
use Rattle.std.proofs.Common.{[], arith}
use Rattle.vortex_cells.specs.Cells.{cell_of}
use Rattle.vortex_filter.proofs.LiteralSteps.{valid_same, valid_with}
use Rattle.filter_encoding.specs.Encoding.{IsLiteral, literal_bytes}
use Rattle.filter_encoding.specs.Lists.{AreSo, each_bytes}
use Rattle.filter_encoding.proofs.ListLaws.{loop_end, loop_more, loop_start, loop_stuck}
use Rattle.filter_encoding.proofs.ReadSteps.{passed_on}
use Rattle.filter_encoding.proofs.LiteralLaws.{literals_apart, null_literal}
use Rattle.filter_encoding.proofs.literals.read_so_many.Goals as goal

pub loop-taken-init : goal.loop-taken-init
loop-taken-init c = (loop_start literal_bytes IsLiteral cell_of _ _ c.new-literals.ensures.items, valid_same _ [] c.new-literals.ensures.items tt)

pub loop-taken-preserved : goal.loop-taken-preserved
loop-taken-preserved c = (
  loop_more literal_bytes IsLiteral cell_of c.loop-taken.taken _ c.loop-taken.literals.items _ c.in_ok-literal.literal _ _ _ (omega arith) c.loop-taken.invariant.0 c.in_ok-literal.ensures.read c.in_ok-push.ensures.items,
  valid_with _ _ _ c.in_ok-push.ensures.items c.loop-taken.invariant.1 (c.in_ok-literal.ensures.valid, tt),
)

pub returns-in_err-literal-clause-read : goal.returns-in_err-literal-clause-read
returns-in_err-literal-clause-read c =
    passed_on (each_bytes literal_bytes) (AreSo c.args.count IsLiteral) _ _ _ _ _ c.from_residual.ensures
    (λ bad. loop_stuck literal_bytes IsLiteral cell_of literals_apart _ null_literal c.loop-taken.taken c.args.count c.loop-taken.literals.items _ _ _ c.loop-taken-test.true c.loop-taken.invariant.0 (c.in_err-literal.ensures.read bad))

pub returns-clause-read : goal.returns-clause-read
returns-clause-read c = loop_end literal_bytes IsLiteral cell_of c.loop-taken.taken c.args.count c.loop-taken.literals.items _ _ c.loop-taken.auto.taken-end c.loop-taken-test.false c.loop-taken.invariant.0
