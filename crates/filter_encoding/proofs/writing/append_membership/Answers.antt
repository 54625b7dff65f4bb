-- The test, and then what it compares with.
use Rattle.std.proofs.Common.{map}
use Rattle.vortex_cells.specs.Cells.{cell_of}
use Rattle.filter_encoding.specs.Encoding.{IsHeldCell, IsPlainCell}
use Rattle.filter_encoding.specs.Lists.{AreListed, Fits}
use Rattle.filter_encoding.proofs.WriteSteps.{passed_on, then_written}
use Rattle.filter_encoding.proofs.writing.append_membership.Goals as goal

pub returns-in_err-append_test : goal.returns-in_err-append_test
returns-in_err-append_test c =
    let w = c.in_err-append_test.ensures in
    passed_on _ (Fits c.args.column) (Fits c.args.column × AreListed IsPlainCell (map cell_of c.args.literals.now)) _ _ _ _ _ c.from_residual.ensures (λ h. h.0) w.0 w.1

pub returns : goal.returns
returns c = then_written (AreListed IsHeldCell (map cell_of c.args.literals.now)) (Fits c.args.column × AreListed IsHeldCell (map cell_of c.args.literals.now)) (AreListed IsPlainCell (map cell_of c.args.literals.now)) (Fits c.args.column × AreListed IsPlainCell (map cell_of c.args.literals.now)) _ _ _ _ _ _ (λ q. (c.in_ok-append_test.ensures.0, q)) (λ h. h.1) c.in_ok-append_test.ensures.1 c.append_literals.ensures
