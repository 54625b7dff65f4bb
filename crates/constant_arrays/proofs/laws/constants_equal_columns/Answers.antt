-- The law.
use Rattle.constant_arrays.proofs.EqualColumns.{constants_equal_columns}
use Rattle.constant_arrays.proofs.laws.constants_equal_columns.Goals as goal

pub returns : goal.returns
returns c = constants_equal_columns
