use Rattle.std.proofs.Common.{◌≡◌, ◌+◌, ◌*◌, length}
use Rattle.vortex_value.specs.Values.Content.{contents}
use Rattle.vortex_value.specs.Equality.{all_equal}
use Rattle.vortex_value.specs.Values.RawOf.{value_trees}
use Rattle.vortex_value.proofs.Lent.{lent_size}
use Rattle.vortex_value.proofs.equality.+equality.Given as goal

abbrev pub invariant-equal_tuples-loop-x : goal.invariant-equal_tuples-loop-x
invariant-equal_tuples-loop-x l =
    (all_equal (contents (value_trees l.x-iterator.a.rest.now)) (contents (value_trees l.x-iterator.b.rest.now)) ≡ all_equal (contents (value_trees l.a)) (contents (value_trees l.b))) × (length l.x-iterator.a.rest.now ≡ length l.x-iterator.b.rest.now)

abbrev pub decreases-equal_optional : goal.decreases-equal_optional
decreases-equal_optional l = 3 * lent_size l.a + 1

abbrev pub decreases-equal_values : goal.decreases-equal_values
decreases-equal_values l = 3 * goal.size-equal_values l

abbrev pub decreases-equal_tuples : goal.decreases-equal_tuples
decreases-equal_tuples l = 3 * goal.size-equal_tuples l + 2

abbrev pub decreases-equal_unions : goal.decreases-equal_unions
decreases-equal_unions l = 3 * goal.size-equal_unions l + 1

abbrev pub decreases-equal_scalars : goal.decreases-equal_scalars
decreases-equal_scalars l = 3 * goal.size-equal_scalars l + 1
