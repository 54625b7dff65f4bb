-- A null is valid for the type of any rows.
use Rattle.std.proofs.Common.{subst, sym}
use Rattle.vortex_value.specs.Validity.{Valid}
use Rattle.vortex_value.specs.Values.RawTree.{absent}
use Rattle.column_cells.proofs.FormatValues.{null_of_rows}
use Rattle.column_cells.proofs.cells.null_of_rows.Goals as goal

pub returns-clause-valid : goal.returns-clause-valid
returns-clause-valid c = subst (λ t. Valid t absent) (sym c.in_ok-dtype.ensures.made) (null_of_rows c.args.rows.now)
