-- The types so far have values, and those of the ids so far have none; each call goes down the type.
use Rattle.std.proofs.Common.{◌+◌, ◌*◌, drop}
use Rattle.vortex_dtype.specs.TypeOf.{as_type_trees, dtype_trees, type_of, variants_of}
use Rattle.vortex_dtype.specs.Lemmas.TypeSize.{type_size, types_size}
use Rattle.vortex_value.specs.Validity.{FieldsValid}
use Rattle.vortex_row.specs.Reading.{HavePlain}
use Rattle.vortex_row.proofs.InhabitedSteps.{NoneBefore}
use Rattle.vortex_row.proofs.decode.inhabited.+values.Given as goal

abbrev pub invariant-have_values-loop-dtype : goal.invariant-have_values-loop-dtype
invariant-have_values-loop-dtype l = HavePlain (FieldsValid (dtype_trees (drop l.dtype-index l.dtypes))) → HavePlain (FieldsValid (dtype_trees l.dtypes))

abbrev pub invariant-has_child-loop-index : goal.invariant-has_child-loop-index
invariant-has_child-loop-index l = NoneBefore l.index (variants_of l.variants).type_ids (as_type_trees (variants_of l.variants).types)

abbrev pub decreases-has_value : goal.decreases-has_value
decreases-has_value l = 4 * type_size (type_of l.dtype.now) + 1

abbrev pub decreases-has_present : goal.decreases-has_present
decreases-has_present l = 4 * type_size (type_of l.dtype.now)

abbrev pub decreases-has_sized : goal.decreases-has_sized
decreases-has_sized l = 4 * type_size (type_of l.element.now) + 2

abbrev pub decreases-have_values : goal.decreases-have_values
decreases-have_values l = 4 * types_size (dtype_trees l.dtypes.now) + 2

abbrev pub decreases-has_child : goal.decreases-has_child
decreases-has_child l = 4 * types_size (as_type_trees (variants_of l.variants.now).types) + 3

abbrev pub decreases-has_child_at : goal.decreases-has_child_at
decreases-has_child_at l = 4 * types_size (as_type_trees (variants_of l.variants.now).types) + 2
