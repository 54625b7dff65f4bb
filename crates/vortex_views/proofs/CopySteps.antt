-- Copies of parts that are lent are copies of the parts.
use Rattle.std.proofs.Common.{◌≡◌, Option, None, Result, Ok, refl, subst}
use Rattle.vortex_dtype.specs.declared.error.VortexError.{VortexError}
use Rattle.vortex_views.specs.Copies.{Copies}

-- what copies a part copies any that equals it, under any premise by which what holds the part is valid
pub copies_as : {A B : Type 0} {view : A → B} {IsSound : A → Type 0} {AreFlat : B → Type 0} {held holds : Type 0} {lent part : Option B} {result : Result (Option A) VortexError}
    → (holds → held) → lent ≡ part → Copies view IsSound AreFlat held lent result → Copies view IsSound AreFlat holds part result
copies_as {A} {B} {view} {IsSound} {AreFlat} {held} {holds} {lent} {part} {result} valid same c =
    subst (λ p. Copies view IsSound AreFlat holds p result) same (record {
      copy = c.copy;
      valid = λ h. c.valid (valid h);
      refused = c.refused;
      flat = λ h. c.flat (valid h);
    })

-- no copy is made of no part
pub copies_none : {A B : Type 0} {view : A → B} {IsSound : A → Type 0} {AreFlat : B → Type 0} {holds : Type 0} {part : Option B}
    → None ≡ part → Copies view IsSound AreFlat holds part (Ok None)
copies_none {A} {B} {view} {IsSound} {AreFlat} {holds} {part} same =
    subst (λ p. Copies view IsSound AreFlat holds p (Ok None)) same (record {
      copy = refl;
      valid = λ h. tt;
      refused = tt;
      flat = λ h k. refl;
    })
