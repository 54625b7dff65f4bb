-- Their number, and then each.
use Rattle.std.proofs.Common.{length, map, refl}
use Rattle.vortex_cells.specs.Cells.{cell_of}
use Rattle.filter_encoding.specs.Encoding.{IsHeldCell, IsPlainCell, literal_bytes}
use Rattle.filter_encoding.specs.Lists.{AreListed}
use Rattle.filter_encoding.proofs.ListLaws.{fit_of, list_written}
use Rattle.filter_encoding.proofs.WriteSteps.{passed_on}
use Rattle.filter_encoding.proofs.literals.append_literals.Goals as goal

pub returns-in_err-append_place : goal.returns-in_err-append_place
returns-in_err-append_place c =
    let w = c.in_err-append_place.ensures in
    passed_on _ _ (AreListed IsPlainCell (map cell_of c.args.literals.now)) _ _ _ _ _ c.from_residual.ensures (λ h. fit_of cell_of c.args.literals.now (length c.args.literals.now) refl h.fit) w.0 w.1

pub returns : goal.returns
returns c = list_written literal_bytes IsHeldCell IsPlainCell cell_of c.args.literals.now (length c.args.literals.now) c.append_each.result _ _ _ refl c.in_ok-append_place.ensures c.append_each.ensures
