-- What is left to write in a loop, and that each call goes down the value.
use Rattle.std.proofs.Common.{◌+◌, ◌*◌, drop, codes}
use Rattle.vortex_dtype.specs.TypeOf.{fields_of, map_of, type_of, as_type_trees}
use Rattle.vortex_value.specs.Values.RawOf.{value_trees}
use Rattle.vortex_value.specs.Texts.{element_texts, entry_texts, field_texts}
use Rattle.vortex_value.proofs.Writes.{Joins}
use Rattle.vortex_value.proofs.Lent.{lent_size}
use Rattle.vortex_value.proofs.display.+text.Given as goal

abbrev pub invariant-write_elements-loop-index : goal.invariant-write_elements-loop-index
invariant-write_elements-loop-index g l =
    let e = type_of l.element in
    Joins g.W.Write.write_str_gives (codes ", ") l.initial.f l.index
    (element_texts e (value_trees (drop l.index l.items))) (element_texts e (value_trees l.items)) l.f

abbrev pub invariant-write_entries-loop-index : goal.invariant-write_entries-loop-index
invariant-write_entries-loop-index g l =
    let m = map_of l.map in
    Joins g.W.Write.write_str_gives (codes ", ") l.initial.f l.index
    (entry_texts m.key m.value (value_trees (drop l.index l.items))) (entry_texts m.key m.value (value_trees l.items)) l.f

abbrev pub invariant-write_fields-loop-index : goal.invariant-write_fields-loop-index
invariant-write_fields-loop-index g l =
    let all = fields_of l.fields in
    Joins g.W.Write.write_str_gives (codes ", ") l.initial.f l.index
    (field_texts (drop l.index all.names) (as_type_trees (drop l.index all.types)) (value_trees (drop l.index l.items))) (field_texts all.names (as_type_trees all.types) (value_trees l.items)) l.f

abbrev pub decreases-write_part : goal.decreases-write_part
decreases-write_part g l = 5 * lent_size l.value + 1

abbrev pub decreases-write_value : goal.decreases-write_value
decreases-write_value g l = 5 * goal.size-write_value g l

abbrev pub decreases-write_tuple : goal.decreases-write_tuple
decreases-write_tuple g l = 5 * goal.size-write_tuple g l + 4

abbrev pub decreases-write_elements : goal.decreases-write_elements
decreases-write_elements g l = 5 * goal.size-write_elements g l + 3

abbrev pub decreases-write_entries : goal.decreases-write_entries
decreases-write_entries g l = 5 * goal.size-write_entries g l + 3

abbrev pub decreases-write_entry : goal.decreases-write_entry
decreases-write_entry g l = 5 * lent_size l.entry + 1

abbrev pub decreases-write_pair : goal.decreases-write_pair
decreases-write_pair g l = 5 * goal.size-write_pair g l + 2

abbrev pub decreases-write_fields : goal.decreases-write_fields
decreases-write_fields g l = 5 * goal.size-write_fields g l + 3

abbrev pub decreases-write_union : goal.decreases-write_union
decreases-write_union g l = 5 * goal.size-write_union g l + 2

abbrev pub decreases-write_inner : goal.decreases-write_inner
decreases-write_inner g l = 5 * goal.size-write_inner g l

abbrev pub decreases-write_field : goal.decreases-write_field
decreases-write_field g l = 5 * lent_size l.value + 2
