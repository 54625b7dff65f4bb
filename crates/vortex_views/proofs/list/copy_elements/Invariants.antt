-- What has been copied.
use Rattle.std.proofs.Common.{◌≡◌, map, take}
use Rattle.vortex_dtype.specs.TypeOf.{type_of}
use Rattle.vortex_value.specs.Values.RawOf.{raw_of}
use Rattle.vortex_views.specs.Parts.{scalar_part}
use Rattle.vortex_views.proofs.list.copy_elements.Given as goal

abbrev pub invariant-loop-item : goal.invariant-loop-item
invariant-loop-item l = map scalar_part l.copies.items ≡ map (λ v. (type_of l.dtype, v)) (map raw_of (take l.item-index l.items))
