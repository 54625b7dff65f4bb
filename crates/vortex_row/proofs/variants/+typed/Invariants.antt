-- The rest of the parts decides, and each call goes down the value.
use Rattle.std.proofs.Common.{◌≡◌, ◌+◌, ◌*◌, drop}
use Rattle.vortex_value.specs.Values.Content.{contents}
use Rattle.vortex_value.specs.Values.RawOf.{value_trees}
use Rattle.vortex_value.proofs.Lent.{lent_size}
use Rattle.vortex_row.specs.Typed.{have_typed}
use Rattle.vortex_row.proofs.variants.+typed.Given as goal

abbrev pub invariant-are_parts_typed-loop-part : goal.invariant-are_parts_typed-loop-part
invariant-are_parts_typed-loop-part l = have_typed (contents (value_trees (drop l.part-index l.parts))) ≡ have_typed (contents (value_trees l.parts))

abbrev pub decreases-is_typed : goal.decreases-is_typed
decreases-is_typed l = 3 * lent_size l.value + 1

abbrev pub decreases-is_value_typed : goal.decreases-is_value_typed
decreases-is_value_typed l = 3 * goal.size-is_value_typed l

abbrev pub decreases-are_parts_typed : goal.decreases-are_parts_typed
decreases-are_parts_typed l = 3 * goal.size-are_parts_typed l + 2
