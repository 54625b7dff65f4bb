use Rattle.std.proofs.Common.{◌≡◌, None, Some, length, map, option_map, vec_len}
use Rattle.vortex_dtype.specs.TypeOf.{map_of}
use Rattle.vortex_value.specs.Makers.{entries_cause, raw_entry}
use Rattle.vortex_value.specs.Values.RawOf.{value_tree}
use Rattle.vortex_value.proofs.constructor.maps.map_value.Given as goal

abbrev pub invariant-loop-entry : goal.invariant-loop-entry
invariant-loop-entry g l =
    (goal.iterator-loop-entry g).can_next l.entry-iterator × (goal.iterator-loop-entry g).is_finite l.entry-iterator
    × (entries_cause (map_of l.map) l.yielded ≡ None) × (vec_len l.parts ≡ length l.yielded)
    × (map (option_map value_tree) l.parts.items ≡ map (λ entry. Some (raw_entry entry)) l.yielded)
