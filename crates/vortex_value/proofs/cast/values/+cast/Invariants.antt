-- What is left to cast in a loop, and that each call goes down the value.
use Rattle.std.proofs.Common.{◌≡◌, ◌+◌, ◌*◌, drop, length}
use Rattle.vortex_dtype.specs.TypeOf.{map_of, type_of, dtype_trees}
use Rattle.vortex_value.specs.Steps.CastSteps.{each_to, entries_to, fields_to}
use Rattle.vortex_value.specs.Values.RawOf.{value_trees}
use Rattle.vortex_value.proofs.CastCode.{after}
use Rattle.vortex_value.proofs.Lent.{lent_size}
use Rattle.vortex_value.proofs.cast.values.+cast.Given as goal

abbrev pub invariant-cast_elements-loop-element : goal.invariant-cast_elements-loop-element
invariant-cast_elements-loop-element l =
    each_to (value_trees l.elements) (type_of l.from) (type_of l.to) ≡ after l.made.items (each_to (value_trees (drop l.element-index l.elements)) (type_of l.from) (type_of l.to))

abbrev pub invariant-cast_entries-loop-entry : goal.invariant-cast_entries-loop-entry
invariant-cast_entries-loop-entry l =
    entries_to (value_trees l.entries) (map_of l.from) (map_of l.to) ≡ after l.made.items (entries_to (value_trees (drop l.entry-index l.entries)) (map_of l.from) (map_of l.to))

abbrev pub invariant-cast_fields-loop-field : goal.invariant-cast_fields-loop-field
invariant-cast_fields-loop-field l =
    let fields = l.field-iterator.a.rest.now in
    let sources = l.field-iterator.b.a.rest.now in
    let targets = l.field-iterator.b.b.rest.now in
    (fields_to (value_trees l.fields) (dtype_trees l.sources) (dtype_trees l.targets) ≡ after l.made.items (fields_to (value_trees fields) (dtype_trees sources) (dtype_trees targets)))
    × (length fields ≡ length sources) × (length sources ≡ length targets)

abbrev pub decreases-cast_value : goal.decreases-cast_value
decreases-cast_value l = 16 * lent_size l.value + 3

abbrev pub decreases-cast_present : goal.decreases-cast_present
decreases-cast_present l = 16 * goal.size-cast_present l + 2

abbrev pub decreases-cast_by_kind : goal.decreases-cast_by_kind
decreases-cast_by_kind l = 16 * goal.size-cast_by_kind l + 1

abbrev pub decreases-push_part : goal.decreases-push_part
decreases-push_part l = 16 * lent_size l.value + 6

abbrev pub decreases-push_to_storage : goal.decreases-push_to_storage
decreases-push_to_storage l = 16 * lent_size l.value + 5

abbrev pub decreases-push_null_or_extension : goal.decreases-push_null_or_extension
decreases-push_null_or_extension l = 16 * lent_size l.value + 4

abbrev pub decreases-push_by_kind : goal.decreases-push_by_kind
decreases-push_by_kind l = 16 * goal.size-push_by_kind l + 1

abbrev pub decreases-push_tuple : goal.decreases-push_tuple
decreases-push_tuple l = 16 * goal.size-push_tuple l + 10

abbrev pub decreases-push_union : goal.decreases-push_union
decreases-push_union l = 16 * goal.size-push_union l + 2

abbrev pub decreases-cast_union : goal.decreases-cast_union
decreases-cast_union l = 16 * goal.size-cast_union l + 1

abbrev pub decreases-cast_child : goal.decreases-cast_child
decreases-cast_child l = 16 * lent_size l.child + 4

abbrev pub decreases-cast_parts : goal.decreases-cast_parts
decreases-cast_parts l = 16 * goal.size-cast_parts l + 9

abbrev pub decreases-cast_sized : goal.decreases-cast_sized
decreases-cast_sized l = 16 * goal.size-cast_sized l + 8

abbrev pub decreases-cast_elements : goal.decreases-cast_elements
decreases-cast_elements l = 16 * goal.size-cast_elements l + 7

abbrev pub decreases-cast_map : goal.decreases-cast_map
decreases-cast_map l = 16 * goal.size-cast_map l + 8

abbrev pub decreases-cast_entries : goal.decreases-cast_entries
decreases-cast_entries l = 16 * goal.size-cast_entries l + 7

abbrev pub decreases-push_entry : goal.decreases-push_entry
decreases-push_entry l = 16 * lent_size l.entry + 1

abbrev pub decreases-push_pair : goal.decreases-push_pair
decreases-push_pair l = 16 * goal.size-push_pair l + 7

abbrev pub decreases-cast_fields : goal.decreases-cast_fields
decreases-cast_fields l = 16 * goal.size-cast_fields l + 7
