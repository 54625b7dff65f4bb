-- What is copied so far, and that each call goes down the value.
use Rattle.std.proofs.Common.{◌≡◌, ◌+◌, ◌*◌, length, map, take, option_map}
use Rattle.std.specs.Vec.{vec_capacity, vec_len}
use Rattle.vortex_value.specs.Values.RawOf.{value_tree}
use Rattle.vortex_value.proofs.Lent.{lent_size}
use Rattle.vortex_value.proofs.copies.+copies.Given as goal

abbrev pub invariant-copy_tuple-loop-value : goal.invariant-copy_tuple-loop-value
invariant-copy_tuple-loop-value l = record {
  copied : map (option_map value_tree) l.copies.items ≡ map (option_map value_tree) (take l.value-index l.values);
  count : vec_len l.copies ≡ l.value-index;
  room : vec_capacity l.copies ≡ length l.values;
}

abbrev pub decreases-copy_optional : goal.decreases-copy_optional
decreases-copy_optional l = 5 * lent_size l.value + 1

abbrev pub decreases-copy_value : goal.decreases-copy_value
decreases-copy_value l = 5 * goal.size-copy_value l

abbrev pub decreases-copy_tuple : goal.decreases-copy_tuple
decreases-copy_tuple l = 5 * goal.size-copy_tuple l + 2

abbrev pub decreases-push_copy : goal.decreases-push_copy
decreases-push_copy l = 5 * lent_size l.value + 1

abbrev pub decreases-push_tuple : goal.decreases-push_tuple
decreases-push_tuple l = 5 * goal.size-push_tuple l + 3

abbrev pub decreases-push_union : goal.decreases-push_union
decreases-push_union l = 5 * goal.size-push_union l + 2

abbrev pub decreases-push_variant : goal.decreases-push_variant
decreases-push_variant l = 5 * goal.size-push_variant l + 3

abbrev pub decreases-copy_union : goal.decreases-copy_union
decreases-copy_union l = 5 * goal.size-copy_union l + 2

abbrev pub decreases-copy_child : goal.decreases-copy_child
decreases-copy_child l = 5 * lent_size l.child + 1

abbrev pub decreases-box_copy : goal.decreases-box_copy
decreases-box_copy l = 5 * goal.size-box_copy l

abbrev pub decreases-box_tuple : goal.decreases-box_tuple
decreases-box_tuple l = 5 * goal.size-box_tuple l + 3

abbrev pub decreases-box_union : goal.decreases-box_union
decreases-box_union l = 5 * goal.size-box_union l + 3

abbrev pub decreases-box_variant : goal.decreases-box_variant
decreases-box_variant l = 5 * goal.size-box_variant l + 3

abbrev pub decreases-copy_boxed : goal.decreases-copy_boxed
decreases-copy_boxed l = 5 * goal.size-copy_boxed l + 2

abbrev pub decreases-boxed_tuple : goal.decreases-boxed_tuple
decreases-boxed_tuple l = 5 * goal.size-boxed_tuple l + 3

abbrev pub decreases-boxed_elements : goal.decreases-boxed_elements
decreases-boxed_elements l = 5 * goal.size-boxed_elements l + 3

abbrev pub decreases-boxed_fields : goal.decreases-boxed_fields
decreases-boxed_fields l = 5 * goal.size-boxed_fields l + 3

abbrev pub decreases-boxed_scalar : goal.decreases-boxed_scalar
decreases-boxed_scalar l = 5 * goal.size-boxed_scalar l + 1

abbrev pub decreases-copy_scalar : goal.decreases-copy_scalar
decreases-copy_scalar l = 5 * goal.size-copy_scalar l
