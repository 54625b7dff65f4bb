use Rattle.std.proofs.Common.{[], ◌∷◌, codes, refl, rules}
use Rattle.vortex_dtype.specs.TypeOf.{type_of}
use Rattle.column_cells.specs.Types.{decimal_storage}
use Rattle.column_cells.proofs.TypeSteps.{tests_same}
use Rattle.column_cells.proofs.types.is_type_of_decimals.Goals as goal

pub returns : goal.returns
returns c =
    tests_same (codes "doqallin.decimal") (c.args.precision ∷ c.args.scale ∷ []) _ _ (decimal_storage c.args.precision) _ (type_of c.args.dtype.now) _ (search rules) (search rules) c.decimal_storage.ensures c.is_extension.ensures
