use Rattle.std.proofs.Common.{◌≡◌, ◌+◌, ◌*◌, drop}
use Rattle.std.specs.Option.{is_some}
use Rattle.vortex_dtype.specs.TypeOf.{type_of, as_type_trees, dtype_trees, variants_of}
use Rattle.vortex_dtype.specs.Lemmas.TypeSize.{type_size, types_size}
use Rattle.vortex_value.specs.Zero.{fillings}
use Rattle.vortex_value.proofs.zero.+fills.Given as goal

-- the rest of the types decides
abbrev pub invariant-have_all_zero_or_default-loop-dtype : goal.invariant-have_all_zero_or_default-loop-dtype
invariant-have_all_zero_or_default-loop-dtype l = is_some (fillings l.nulls (dtype_trees (drop l.dtype-index l.dtypes))) ≡ is_some (fillings l.nulls (dtype_trees l.dtypes))

-- each call goes down the type

abbrev pub decreases-has_zero_or_default : goal.decreases-has_zero_or_default
decreases-has_zero_or_default l = 2 * type_size (type_of l.dtype.now)

abbrev pub decreases-have_places_zero_or_default : goal.decreases-have_places_zero_or_default
decreases-have_places_zero_or_default l = 2 * type_size (type_of l.element.now) + 1

abbrev pub decreases-has_first_zero_or_default : goal.decreases-has_first_zero_or_default
decreases-has_first_zero_or_default l = 2 * types_size (as_type_trees (variants_of l.variants.now).types) + 1

abbrev pub decreases-have_all_zero_or_default : goal.decreases-have_all_zero_or_default
decreases-have_all_zero_or_default l = 2 * types_size (dtype_trees l.dtypes.now) + 1
