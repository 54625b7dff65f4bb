use Rattle.std.proofs.Common.{◌≡◌, drop}
use Rattle.vortex_dtype.specs.TypeOf.{type_of}
use Rattle.vortex_value.specs.Conversions.{each_taken}
use Rattle.vortex_value.specs.Values.RawOf.{value_trees}
use Rattle.vortex_array.specs.Conversions.{given_each}
use Rattle.vortex_array.proofs.TakenEach.{after}
use Rattle.vortex_array.proofs.from_scalar.take_elements.Given as goal

abbrev pub invariant-loop-part : goal.invariant-loop-part
invariant-loop-part g l =
    let read = g.T.FromScalar.taken (type_of l.element) in
    each_taken read (value_trees l.parts) ≡ after (given_each g.T.FromScalar.given l.taken.items) (each_taken read (value_trees (drop l.part-index l.parts)))
