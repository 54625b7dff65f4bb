-- What is left says the same, and names no constant column.
use Rattle.std.proofs.Common.{map}
use Rattle.vortex_cells.specs.Cells.{cell_of}
use Rattle.vortex_filter.specs.Formula.{formula}
use Rattle.constant_arrays.proofs.FoldingLaws.{left-names, left-same}
use Rattle.constant_arrays.proofs.folding.fold_constants.Goals as goal

pub returns-clause-same : goal.returns-clause-same
returns-clause-same c = left-same c.args.is_constant.now (map cell_of c.args.constants.now) (formula c.args.filter.now) c.fold.result c.fold.ensures

pub returns-clause-names : goal.returns-clause-names
returns-clause-names c = left-names c.args.is_constant.now (map cell_of c.args.constants.now) (formula c.args.filter.now) c.fold.result c.fold.ensures
