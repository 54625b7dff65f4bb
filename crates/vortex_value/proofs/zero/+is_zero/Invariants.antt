-- What is left to test, and that each call goes down the value.
use Rattle.std.proofs.Common.{◌≡◌, ◌+◌, ◌*◌, drop, length}
use Rattle.vortex_dtype.specs.TypeOf.{type_of, dtype_trees}
use Rattle.vortex_value.specs.Values.Content.{contents}
use Rattle.vortex_value.specs.Values.RawOf.{value_trees}
use Rattle.vortex_value.specs.Zero.{each_zero, fields_zero}
use Rattle.vortex_value.proofs.Lent.{lent_size}
use Rattle.vortex_value.proofs.zero.+is_zero.Given as goal

abbrev pub invariant-are_parts_zero-loop-item : goal.invariant-are_parts_zero-loop-item
invariant-are_parts_zero-loop-item l =
    each_zero (type_of l.element) (contents (value_trees (drop l.item-index l.items))) ≡ each_zero (type_of l.element) (contents (value_trees l.items))

abbrev pub invariant-are_fields_zero-loop-item : goal.invariant-are_fields_zero-loop-item
invariant-are_fields_zero-loop-item l =
    (fields_zero (dtype_trees l.item-iterator.b.rest.now) (contents (value_trees l.item-iterator.a.rest.now)) ≡ fields_zero (dtype_trees l.fields) (contents (value_trees l.items)))
    × (length l.item-iterator.a.rest.now ≡ length l.item-iterator.b.rest.now)

abbrev pub decreases-is_zero : goal.decreases-is_zero
decreases-is_zero l = 3 * lent_size l.value + 1

abbrev pub decreases-are_elements_zero : goal.decreases-are_elements_zero
decreases-are_elements_zero l = 3 * goal.size-are_elements_zero l + 3

abbrev pub decreases-are_parts_zero : goal.decreases-are_parts_zero
decreases-are_parts_zero l = 3 * goal.size-are_parts_zero l + 2

abbrev pub decreases-are_fields_zero : goal.decreases-are_fields_zero
decreases-are_fields_zero l = 3 * goal.size-are_fields_zero l + 2

abbrev pub decreases-is_child_zero : goal.decreases-is_child_zero
decreases-is_child_zero l = 3 * goal.size-is_child_zero l + 1

abbrev pub decreases-is_inner_zero : goal.decreases-is_inner_zero
decreases-is_inner_zero l = 3 * goal.size-is_inner_zero l + 1
