-- What is counted and what is left, and that each call goes down the value.
use Rattle.std.proofs.Common.{◌≡◌, ◌+◌, ◌*◌, drop}
use Rattle.vortex_dtype.specs.TypeOf.{map_of, type_of, dtype_trees}
use Rattle.vortex_value.specs.Values.RawOf.{value_trees}
use Rattle.vortex_value.specs.Size.{capped, elements_size, entries_size, fields_size}
use Rattle.vortex_value.proofs.Lent.{lent_size}
use Rattle.vortex_value.proofs.size.+size.Given as goal

abbrev pub invariant-size_of_parts-loop-item : goal.invariant-size_of_parts-loop-item
invariant-size_of_parts-loop-item l =
    (capped l.total ≡ l.total) × (capped (l.total + elements_size (type_of l.element) (value_trees (drop l.item-index l.items))) ≡ capped (elements_size (type_of l.element) (value_trees l.items)))

abbrev pub invariant-size_of_entries-loop-item : goal.invariant-size_of_entries-loop-item
invariant-size_of_entries-loop-item l =
    (capped l.total ≡ l.total) × (capped (l.total + entries_size (map_of l.map).key (map_of l.map).value (value_trees (drop l.item-index l.items))) ≡ capped (entries_size (map_of l.map).key (map_of l.map).value (value_trees l.items)))

abbrev pub invariant-size_of_fields-loop-item : goal.invariant-size_of_fields-loop-item
invariant-size_of_fields-loop-item l =
    (capped l.total ≡ l.total) × (capped (l.total + fields_size (dtype_trees l.item-iterator.b.rest.now) (value_trees l.item-iterator.a.rest.now)) ≡ capped (fields_size (dtype_trees l.fields) (value_trees l.items)))

abbrev pub decreases-size : goal.decreases-size
decreases-size l = 3 * lent_size l.value + 1

abbrev pub decreases-size_of_elements : goal.decreases-size_of_elements
decreases-size_of_elements l = 3 * goal.size-size_of_elements l + 3

abbrev pub decreases-size_of_parts : goal.decreases-size_of_parts
decreases-size_of_parts l = 3 * goal.size-size_of_parts l + 2

abbrev pub decreases-size_of_entries : goal.decreases-size_of_entries
decreases-size_of_entries l = 3 * goal.size-size_of_entries l + 2

abbrev pub decreases-size_of_entry : goal.decreases-size_of_entry
decreases-size_of_entry l = 3 * lent_size l.entry + 1

abbrev pub decreases-size_of_pair : goal.decreases-size_of_pair
decreases-size_of_pair l = 3 * goal.size-size_of_pair l + 2

abbrev pub decreases-size_of_fields : goal.decreases-size_of_fields
decreases-size_of_fields l = 3 * goal.size-size_of_fields l + 2

abbrev pub decreases-size_of_child : goal.decreases-size_of_child
decreases-size_of_child l = 3 * goal.size-size_of_child l + 1

abbrev pub decreases-size_of_inner : goal.decreases-size_of_inner
decreases-size_of_inner l = 3 * goal.size-size_of_inner l + 2
