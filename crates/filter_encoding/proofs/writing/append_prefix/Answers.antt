-- The test, and then what it compares with.
use Rattle.vortex_cells.specs.Cells.{cell_of}
use Rattle.filter_encoding.specs.Encoding.{IsHeldCell, IsPlainCell}
use Rattle.filter_encoding.specs.Lists.{Fits}
use Rattle.filter_encoding.proofs.WriteSteps.{passed_on, then_written}
use Rattle.filter_encoding.proofs.writing.append_prefix.Goals as goal

pub returns-in_err-append_test : goal.returns-in_err-append_test
returns-in_err-append_test c =
    let w = c.in_err-append_test.ensures in
    passed_on _ (Fits c.args.column) (Fits c.args.column × IsPlainCell (cell_of c.args.prefix.now)) _ _ _ _ _ c.from_residual.ensures (λ h. h.0) w.0 w.1

pub returns : goal.returns
returns c = then_written (IsHeldCell (cell_of c.args.prefix.now)) (Fits c.args.column × IsHeldCell (cell_of c.args.prefix.now)) (IsPlainCell (cell_of c.args.prefix.now)) (Fits c.args.column × IsPlainCell (cell_of c.args.prefix.now)) _ _ _ _ _ _ (λ q. (c.in_ok-append_test.ensures.0, q)) (λ h. h.1) c.in_ok-append_test.ensures.1 c.append_literal.ensures
