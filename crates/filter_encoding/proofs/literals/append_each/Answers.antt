-- One more is written, or may not be.
use Rattle.std.proofs.Common.{map, arith}
use Rattle.std.specs.List.{AllByRecursion}
use Rattle.vortex_cells.specs.Cells.{cell_of}
use Rattle.filter_encoding.specs.Encoding.{IsHeldCell, IsPlainCell, literal_bytes}
use Rattle.filter_encoding.proofs.ListLaws.{left_end, left_item, left_more, left_start}
use Rattle.filter_encoding.proofs.WriteSteps.{begins_on, passed_on}
use Rattle.filter_encoding.proofs.literals.append_each.Goals as goal

pub loop-literal-init : goal.loop-literal-init
loop-literal-init c = left_start literal_bytes IsHeldCell IsPlainCell (map cell_of c.args.literals.now) _

pub loop-literal-preserved : goal.loop-literal-preserved
loop-literal-preserved c =
    left_more literal_bytes IsHeldCell IsPlainCell cell_of c.loop-literal.literal-index _ c.args.literals.now c.literal-item.result _ _ _ (omega arith) c.loop-literal-test.true c.literal-item.is c.loop-literal.invariant c.in_ok-append_literal.ensures

pub returns-in_err-append_literal : goal.returns-in_err-append_literal
returns-in_err-append_literal c =
    let w = c.in_err-append_literal.ensures in
    passed_on _ (IsPlainCell (cell_of c.literal-item.result)) (AllByRecursion IsPlainCell (map cell_of c.args.literals.now)) _ _ _ _ _ c.from_residual.ensures
    (left_item literal_bytes IsHeldCell IsPlainCell cell_of c.loop-literal.literal-index c.args.literals.now c.literal-item.result _ _ c.loop-literal-test.true c.literal-item.is c.loop-literal.invariant) w.0 (begins_on _ _ _ c.loop-literal.invariant.begins w.1)

pub returns : goal.returns
returns c = left_end literal_bytes IsHeldCell IsPlainCell cell_of c.loop-literal.literal-index c.args.literals.now _ _ c.loop-literal-test.false c.loop-literal.invariant
