use Rattle.vortex_cells.specs.Cells.{Cell}
use Rattle.constant_arrays.specs.Words.{cell_of, compare_truth, len_of, scalar_of}
use Rattle.constant_arrays.proofs.Repeated.{asked_once}
use Rattle.constant_arrays.proofs.array.ConstantArray.compare.Goals as goal

pub returns-clause-rows : goal.returns-clause-rows
returns-clause-rows c =
    asked_once (λ (x : Cell). compare_truth c.args.operator x (cell_of c.args.literal.now)) (len_of c.args.self.now) (cell_of (scalar_of c.args.self.now)) c.truth_of_comparison.result
    c.truth_of_comparison.ensures
