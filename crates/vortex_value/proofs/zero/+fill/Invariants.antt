use Rattle.std.proofs.Common.{◌≡◌, ◌+◌, ◌*◌, length, take}
use Rattle.vortex_dtype.specs.TypeOf.{type_of, as_type_trees, dtype_trees, variants_of}
use Rattle.vortex_dtype.specs.Lemmas.TypeSize.{type_size, types_size}
use Rattle.vortex_value.specs.Values.RawOf.{value_trees}
use Rattle.vortex_value.specs.Steps.Filling.{EachFills, FillFields}
use Rattle.vortex_value.proofs.zero.+fill.Given as goal

-- what is made fills as many places
abbrev pub invariant-zero_or_default_places-loop : goal.invariant-zero_or_default_places-loop
invariant-zero_or_default_places-loop l = (length l.items.items ≡ l.counter) × EachFills l.nulls (type_of l.element) (value_trees l.items.items)

-- what is made fills the types so far
abbrev pub invariant-zero_or_default_fields-loop-dtype : goal.invariant-zero_or_default_fields-loop-dtype
invariant-zero_or_default_fields-loop-dtype l = FillFields l.nulls (dtype_trees (take l.dtype-index l.dtypes)) (value_trees l.items.items)

-- each call goes down the type

abbrev pub decreases-write_zero_or_default : goal.decreases-write_zero_or_default
decreases-write_zero_or_default l = 2 * type_size (type_of l.dtype.now)

abbrev pub decreases-zero_or_default_places : goal.decreases-zero_or_default_places
decreases-zero_or_default_places l = 2 * type_size (type_of l.element.now) + 1

abbrev pub decreases-zero_or_default_first : goal.decreases-zero_or_default_first
decreases-zero_or_default_first l = 2 * types_size (as_type_trees (variants_of l.variants.now).types) + 1

abbrev pub decreases-zero_or_default_fields : goal.decreases-zero_or_default_fields
decreases-zero_or_default_fields l = 2 * types_size (dtype_trees l.dtypes.now) + 1
