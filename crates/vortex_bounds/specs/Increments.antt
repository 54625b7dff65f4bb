-- Why a string has no increment.
use Rattle.std.specs.Prelude.{◌≡◌, ℕ, List}
use Rattle.vortex_bounds.specs.declared.string_like.IncrementError.{IncrementError}
use Rattle.vortex_bounds.specs.declared.string_like.IncrementError.TheVariants.{Last, Memory}

-- the refusal hands the string of the bytes p back, and is `Last` exactly if p stops
abbrev pub HandsBack : {S : Type 0} → (S → List ℕ) → (List ℕ → Type 0) → List ℕ → IncrementError S → Type 0
HandsBack bytes stops p (Last s) = (bytes s ≡ p) × stops p
HandsBack bytes stops p (Memory s) = (bytes s ≡ p) × ¬ (stops p)

-- the refusal is not for want of memory
abbrev pub IsOfNoNext : {S : Type 0} → IncrementError S → Type 0
IsOfNoNext (Last s) = Unit {0}
IsOfNoNext (Memory s) = ⊥
