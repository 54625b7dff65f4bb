-- The first, and then the second.
use Rattle.vortex_cells.specs.Cells.{cell_of}
use Rattle.filter_encoding.proofs.NoValueLaws.{first_passed, first_refused}
use Rattle.filter_encoding.proofs.values.behind_two.Goals as goal

pub returns-in_err-middle : goal.returns-in_err-middle
returns-in_err-middle c = first_refused (cell_of c.args.first.now) (cell_of c.args.second.now) c.args.offset c.from_residual.result _ c.from_residual.ensures c.in_err-middle.ensures

pub returns : goal.returns
returns c = first_passed (cell_of c.args.first.now) (cell_of c.args.second.now) c.args.offset c.in_ok-middle.middle c.behind_literal-2.result c.in_ok-middle.ensures c.behind_literal-2.ensures
