use Rattle.std.proofs.Common.{◌≡◌, map}
use Rattle.std.specs.List.{All}
use Rattle.vortex_value.specs.Validity.{Valid}
use Rattle.vortex_value.specs.Values.RawOf.{raw_of}
use Rattle.vortex_array.proofs.into_scalar.raw_elements.Given as goal

abbrev pub invariant-loop-element : goal.invariant-loop-element
invariant-loop-element g l =
    (map raw_of l.values.items ≡ map g.T.IntoScalar.given l.yielded)
    × All (λ v. Valid g.T.NativeDType.native_type (raw_of v)) l.values.items
