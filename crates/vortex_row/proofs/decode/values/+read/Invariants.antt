-- The parts so far, and what parts are to come; each call goes down the type.
use Rattle.std.proofs.Common.{◌+◌, ◌-◌, ◌*◌, length, drop}
use Rattle.vortex_dtype.specs.TypeOf.{as_type_trees, dtype_trees, map_of, type_of, variants_of}
use Rattle.vortex_dtype.specs.Lemmas.TypeSize.{type_size, types_size}
use Rattle.vortex_value.specs.Validity.{EachValid, EntriesValid, FieldsValid}
use Rattle.vortex_value.specs.Values.RawOf.{value_trees}
use Rattle.vortex_row.specs.Reading.{AreSized, left}
use Rattle.vortex_row.proofs.PartSteps.{SoFar}
use Rattle.vortex_row.proofs.decode.values.+read.Given as goal

abbrev pub invariant-read_list-loop-alloc : goal.invariant-read_list-loop-alloc
invariant-read_list-loop-alloc l = SoFar (EachValid (type_of l.element)) (value_trees l.parts.items) (left l.initial.reader) (EachValid (type_of l.element)) (left l.reader)

abbrev pub decreases-read_list-loop-alloc : goal.decreases-read_list-loop-alloc
decreases-read_list-loop-alloc l = length (left l.reader)

abbrev pub invariant-read_fixed-loop-place : goal.invariant-read_fixed-loop-place
invariant-read_fixed-loop-place l =
    SoFar (AreSized l.size (type_of l.element)) (value_trees l.parts.items) (left l.initial.reader) (AreSized (l.size - l.place) (type_of l.element)) (left l.reader)

abbrev pub invariant-read_map-loop-alloc : goal.invariant-read_map-loop-alloc
invariant-read_map-loop-alloc l =
    SoFar (EntriesValid (map_of l.map).key (map_of l.map).value) (value_trees l.parts.items) (left l.initial.reader) (EntriesValid (map_of l.map).key (map_of l.map).value) (left l.reader)

abbrev pub decreases-read_map-loop-alloc : goal.decreases-read_map-loop-alloc
decreases-read_map-loop-alloc l = length (left l.reader)

abbrev pub invariant-read_struct-loop-index : goal.invariant-read_struct-loop-index
invariant-read_struct-loop-index l =
    SoFar (FieldsValid (dtype_trees l.dtypes)) (value_trees l.parts.items) (left l.initial.reader) (FieldsValid (dtype_trees (drop l.index l.dtypes))) (left l.reader)

abbrev pub decreases-read : goal.decreases-read
decreases-read l = 8 * type_size (type_of l.dtype.now) + 1

abbrev pub decreases-read_value : goal.decreases-read_value
decreases-read_value l = 8 * type_size (type_of l.dtype.now)

abbrev pub decreases-read_list : goal.decreases-read_list
decreases-read_list l = 8 * type_size (type_of l.element.now) + 5

abbrev pub decreases-read_fixed : goal.decreases-read_fixed
decreases-read_fixed l = 8 * type_size (type_of l.element.now) + 4

abbrev pub decreases-read_map : goal.decreases-read_map
decreases-read_map l = 8 * (type_size (map_of l.map.now).key + type_size (map_of l.map.now).value) + 6

abbrev pub decreases-read_entry : goal.decreases-read_entry
decreases-read_entry l = 8 * (type_size (map_of l.map.now).key + type_size (map_of l.map.now).value) + 4

abbrev pub decreases-read_struct : goal.decreases-read_struct
decreases-read_struct l = 8 * types_size (dtype_trees l.dtypes.now) + 4

abbrev pub decreases-read_union : goal.decreases-read_union
decreases-read_union l = 8 * types_size (as_type_trees (variants_of l.variants.now).types) + 2

abbrev pub decreases-push_value : goal.decreases-push_value
decreases-push_value l = 8 * type_size (type_of l.dtype.now) + 1

abbrev pub decreases-push_next : goal.decreases-push_next
decreases-push_next l = 8 * type_size (type_of l.dtype.now) + 3

abbrev pub decreases-push_element : goal.decreases-push_element
decreases-push_element l = 8 * type_size (type_of l.dtype.now) + 4

abbrev pub decreases-push_entry : goal.decreases-push_entry
decreases-push_entry l = 8 * (type_size (map_of l.map.now).key + type_size (map_of l.map.now).value) + 5
