-- What is left to write in a loop, and that each call goes down the value.
use Rattle.std.proofs.Common.{◌+◌, ◌*◌, drop, codes}
use Rattle.vortex_value.specs.Values.RawOf.{value_trees}
use Rattle.vortex_value.specs.Texts.{raw_texts}
use Rattle.vortex_value.proofs.Writes.{Joins}
use Rattle.vortex_value.proofs.Lent.{lent_size}
use Rattle.vortex_value.proofs.display.+raw_text.Given as goal

abbrev pub invariant-write_raw_items-loop-index : goal.invariant-write_raw_items-loop-index
invariant-write_raw_items-loop-index g l =
    Joins g.W.Write.write_str_gives (codes ", ") l.initial.f l.index
    (raw_texts (value_trees (drop l.index l.items))) (raw_texts (value_trees l.items)) l.f

abbrev pub decreases-write_raw_part : goal.decreases-write_raw_part
decreases-write_raw_part g l = 4 * lent_size l.value + 1

abbrev pub decreases-write_raw : goal.decreases-write_raw
decreases-write_raw g l = 4 * goal.size-write_raw g l

abbrev pub decreases-write_raw_items : goal.decreases-write_raw_items
decreases-write_raw_items g l = 4 * goal.size-write_raw_items g l + 2

abbrev pub decreases-write_raw_union : goal.decreases-write_raw_union
decreases-write_raw_union g l = 4 * goal.size-write_raw_union g l + 1

abbrev pub decreases-write_scalar : goal.decreases-write_scalar
decreases-write_scalar g l = 4 * goal.size-write_scalar g l

abbrev pub decreases-write_text : goal.decreases-write_text
decreases-write_text g l = 4 * lent_size l.value + 3

abbrev pub decreases-write_invalid : goal.decreases-write_invalid
decreases-write_invalid g l = 4 * lent_size l.value + 2
