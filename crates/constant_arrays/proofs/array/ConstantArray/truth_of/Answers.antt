use Rattle.std.proofs.Common.{List, [], ◌∷◌, map, ap, ◌∙◌}
use Rattle.vortex_value.specs.declared.scalars.Scalar.{Scalar}
use Rattle.vortex_cells.specs.Cells.{Cell}
use Rattle.constant_arrays.specs.Words.{cell_of, formula, len_of, scalar_of, truth}
use Rattle.constant_arrays.proofs.Repeated.{asked_once}
use Rattle.constant_arrays.proofs.array.ConstantArray.truth_of.Goals as goal

pub returns-clause-rows : goal.returns-clause-rows
returns-clause-rows c =
    asked_once (λ (x : Cell). truth (formula c.args.filter.now) (x ∷ [])) (len_of c.args.self.now) (cell_of (scalar_of c.args.self.now)) c.truth.result
    (c.truth.ensures ∙ ap (λ (row : List Scalar). truth (formula c.args.filter.now) (map cell_of row)) c.from_ref.ensures.value)
