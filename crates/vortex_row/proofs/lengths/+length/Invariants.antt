-- What is counted and what is left, and that each call goes down the value.
use Rattle.std.proofs.Common.{◌≡◌, ◌+◌, ◌*◌, drop, length}
use Rattle.vortex_value.specs.Size.{capped}
use Rattle.vortex_value.specs.Values.Content.{contents}
use Rattle.vortex_value.specs.Values.RawOf.{value_trees}
use Rattle.vortex_value.proofs.Lent.{lent_size}
use Rattle.vortex_row.specs.Keys.{keys}
use Rattle.vortex_row.proofs.lengths.+length.Given as goal

abbrev pub invariant-parts_length-loop-part : goal.invariant-parts_length-loop-part
invariant-parts_length-loop-part l =
    (capped l.total ≡ l.total) × (capped (l.total + length (keys (contents (value_trees (drop l.part-index l.parts))))) ≡ capped (length (keys (contents (value_trees l.parts)))))

abbrev pub decreases-length : goal.decreases-length
decreases-length l = 3 * lent_size l.value + 1

abbrev pub decreases-value_length : goal.decreases-value_length
decreases-value_length l = 3 * goal.size-value_length l

abbrev pub decreases-parts_length : goal.decreases-parts_length
decreases-parts_length l = 3 * goal.size-parts_length l + 2

abbrev pub decreases-union_length : goal.decreases-union_length
decreases-union_length l = 3 * goal.size-union_length l + 1
