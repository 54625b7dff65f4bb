-- What the law says of the zeros that calls answer.
use Rattle.std.proofs.Common.{◌≡◌, Some, None, Ok, Err, IfOk, IfSome, true, refl}
use Rattle.std.specs.Prelude.{Option, Result}
use Rattle.vortex_dtype.specs.TypeTree.{TypeTree}
use Rattle.vortex_dtype.specs.declared.error.VortexError.{VortexError}
use Rattle.vortex_value.specs.Values.Content.{Content}
use Rattle.vortex_value.specs.Values.Scalars.{scalar_content, scalar_type}
use Rattle.vortex_value.specs.Zero.{IsTheOneOf, ZeroIsZero, is_zero_of, zero_of}
use Rattle.vortex_value.specs.declared.scalars.Scalar.{Scalar}

is_zero : ZeroIsZero → (t : TypeTree) (o : Option Content) (y : Scalar) → zero_of t ≡ o → IsTheOneOf t o (Some y) → is_zero_of (scalar_type y) (scalar_content y) ≡ Some true
is_zero law t (Some c) y e one = rw (one.typed, one.same) (law.is_zero t c e)
is_zero law t None y e one = absurd one

-- the zero that a call gives is zero
pub given_zero : ZeroIsZero → (t : TypeTree) (r : Result (Option Scalar) VortexError) → IfOk r (IsTheOneOf t (zero_of t))
    → IfOk r (λ made. IfSome made (λ zero. is_zero_of (scalar_type zero) (scalar_content zero) ≡ Some true))
given_zero law t (Ok (Some y)) one = is_zero law t (zero_of t) y refl one
given_zero law t (Ok None) one = tt
given_zero law t (Err e) one = tt
