-- What the rest of two tuples says, and that each call goes down the first value.
use Rattle.std.proofs.Common.{◌≡◌, ◌+◌, ◌*◌, length}
use Rattle.vortex_value.specs.Values.Content.{contents}
use Rattle.vortex_value.specs.Order.{orders}
use Rattle.vortex_value.specs.Values.RawOf.{value_trees}
use Rattle.vortex_value.proofs.Lent.{lent_size}
use Rattle.vortex_value.proofs.ordering.+order.Given as goal

-- the rests decide, and as many places of both are behind
abbrev pub invariant-compare_tuples-loop-x : goal.invariant-compare_tuples-loop-x
invariant-compare_tuples-loop-x l =
    (orders (contents (value_trees l.x-iterator.a.rest.now)) (contents (value_trees l.x-iterator.b.rest.now)) ≡ orders (contents (value_trees l.a)) (contents (value_trees l.b)))
    × (length l.x-iterator.a.rest.now + length l.b ≡ length l.x-iterator.b.rest.now + length l.a)

abbrev pub decreases-compare : goal.decreases-compare
decreases-compare l = 3 * lent_size l.a + 1

abbrev pub decreases-compare_values : goal.decreases-compare_values
decreases-compare_values l = 3 * goal.size-compare_values l

abbrev pub decreases-compare_tuples : goal.decreases-compare_tuples
decreases-compare_tuples l = 3 * goal.size-compare_tuples l + 2

abbrev pub decreases-compare_unions : goal.decreases-compare_unions
decreases-compare_unions l = 3 * goal.size-compare_unions l + 1
