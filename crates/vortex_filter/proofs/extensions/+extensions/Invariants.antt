-- The rest of the types decides, and each call goes down the type.
use Rattle.std.proofs.Common.{◌≡◌, ◌+◌, ◌*◌, drop}
use Rattle.vortex_dtype.specs.TypeOf.{type_of, dtype_trees}
use Rattle.vortex_dtype.specs.Lemmas.TypeSize.{type_size, types_size}
use Rattle.vortex_filter.specs.Extensions.{have_extension}
use Rattle.vortex_filter.proofs.extensions.+extensions.Given as goal

abbrev pub invariant-have_extension-loop-dtype : goal.invariant-have_extension-loop-dtype
invariant-have_extension-loop-dtype l = have_extension (dtype_trees (drop l.dtype-index l.dtypes)) ≡ have_extension (dtype_trees l.dtypes)

abbrev pub decreases-has_extension : goal.decreases-has_extension
decreases-has_extension l = 2 * type_size (type_of l.dtype.now)

abbrev pub decreases-have_extension : goal.decreases-have_extension
decreases-have_extension l = 2 * types_size (dtype_trees l.dtypes.now) + 1
