-- The text of a union's value takes the name and the type that are found.
use Rattle.std.proofs.Common.{refl}
use Rattle.vortex_dtype.specs.Lemmas.TypeLevels.{type_of-Union}
use Rattle.vortex_value.proofs.display.named_variant.Goals as goal

pub returns-in_err-get-clause-none : goal.returns-in_err-get-clause-none
returns-in_err-get-clause-none c =
    rw c.from_residual-in_err-get.ensures
    (λ raw. rw (c.in-Union.is, type_of-Union, c.in_ok-place.ensures.placed, ← c.names.ensures, ← c.in_err-get.ensures) refl)

pub returns-clause-some : goal.returns-clause-some
returns-clause-some c = λ raw.
    rw (c.in-Union.is, type_of-Union, ← c.in_ok-place.ensures.typed, c.in_ok-place.ensures.placed, ← c.names.ensures, ← c.in_ok-get.ensures) refl
