-- What is left to check in a loop, and that each call goes down the value.
use Rattle.std.proofs.Common.{◌≡◌, ◌+◌, ◌*◌, drop}
use Rattle.vortex_dtype.specs.TypeOf.{map_of, type_of, dtype_trees}
use Rattle.vortex_value.specs.Breaches.{element_breaches, entry_breaches, field_breaches}
use Rattle.vortex_value.specs.Values.RawOf.{value_trees}
use Rattle.vortex_value.proofs.Lent.{lent_size}
use Rattle.vortex_value.proofs.validate.+validity.Given as goal

abbrev pub invariant-check_parts-loop-index : goal.invariant-check_parts-loop-index
invariant-check_parts-loop-index l = record {
  alloc : l.trace.alloc ≡ l.fn.trace.alloc;
  left : element_breaches (type_of l.element) 0 (value_trees l.items) ≡ element_breaches (type_of l.element) l.index (value_trees (drop l.index l.items));
}

abbrev pub invariant-check_entries-loop-index : goal.invariant-check_entries-loop-index
invariant-check_entries-loop-index l = record {
  alloc : l.trace.alloc ≡ l.fn.trace.alloc;
  left : entry_breaches (map_of l.map).key (map_of l.map).value 0 (value_trees l.items) ≡ entry_breaches (map_of l.map).key (map_of l.map).value l.index (value_trees (drop l.index l.items));
}

abbrev pub invariant-check_fields-loop-index : goal.invariant-check_fields-loop-index
invariant-check_fields-loop-index l = record {
  alloc : l.trace.alloc ≡ l.fn.trace.alloc;
  left : field_breaches l.index-iterator.count (dtype_trees l.index-iterator.iter.b.rest.now) (value_trees l.index-iterator.iter.a.rest.now) ≡ field_breaches 0 (dtype_trees l.fields) (value_trees l.items);
}

abbrev pub decreases-check : goal.decreases-check
decreases-check l = 5 * lent_size l.value + 2

abbrev pub decreases-check_present : goal.decreases-check_present
decreases-check_present l = 5 * goal.size-check_present l + 1

abbrev pub decreases-check_value : goal.decreases-check_value
decreases-check_value l = 5 * goal.size-check_value l

abbrev pub decreases-check_elements : goal.decreases-check_elements
decreases-check_elements l = 5 * goal.size-check_elements l + 4

abbrev pub decreases-check_parts : goal.decreases-check_parts
decreases-check_parts l = 5 * goal.size-check_parts l + 3

abbrev pub decreases-check_entries : goal.decreases-check_entries
decreases-check_entries l = 5 * goal.size-check_entries l + 3

abbrev pub decreases-check_entry : goal.decreases-check_entry
decreases-check_entry l = 5 * lent_size l.entry + 2

abbrev pub decreases-check_pair : goal.decreases-check_pair
decreases-check_pair l = 5 * goal.size-check_pair l + 3

abbrev pub decreases-check_fields : goal.decreases-check_fields
decreases-check_fields l = 5 * goal.size-check_fields l + 3

abbrev pub decreases-check_child : goal.decreases-check_child
decreases-check_child l = 5 * goal.size-check_child l + 1

abbrev pub decreases-check_variant : goal.decreases-check_variant
decreases-check_variant l = 5 * goal.size-check_variant l
