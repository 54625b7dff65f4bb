-- What is written and what is left of the keys of the parts, and that each call goes down the value.
use Rattle.std.proofs.Common.{◌+◌, ◌*◌, drop}
use Rattle.vortex_value.specs.Values.Content.{contents}
use Rattle.vortex_value.specs.Values.RawOf.{value_trees}
use Rattle.vortex_value.proofs.Lent.{lent_size}
use Rattle.vortex_row.specs.Held.{AreHeld}
use Rattle.vortex_row.specs.Keys.{keys}
use Rattle.vortex_row.specs.Slots.{IsLeftAt}
use Rattle.vortex_row.proofs.encode.values.+put.Given as goal

abbrev pub invariant-put_parts-loop-part : goal.invariant-put_parts-loop-part
invariant-put_parts-loop-part l =
    IsLeftAt (keys (contents (value_trees (drop l.part-index l.parts)))) (keys (contents (value_trees l.parts))) l.start l.place l.initial.room l.room
    × (AreHeld (contents (value_trees (drop l.part-index l.parts))) → AreHeld (contents (value_trees l.parts)))

abbrev pub decreases-put_part : goal.decreases-put_part
decreases-put_part l = 3 * lent_size l.part + 1

abbrev pub decreases-put_parts : goal.decreases-put_parts
decreases-put_parts l = 3 * goal.size-put_parts l + 2

abbrev pub decreases-put_union : goal.decreases-put_union
decreases-put_union l = 3 * goal.size-put_union l + 1

abbrev pub decreases-put_value : goal.decreases-put_value
decreases-put_value l = 3 * goal.size-put_value l
