-- What the laws of views say.
use Rattle.std.specs.Prelude.{◌≡◌, ◌↔◌, Bool, IsTrue, Option, Some}
use Rattle.std.specs.declared.cmp.Ordering.{Ordering}
use Rattle.std.specs.declared.cmp.Ordering.TheVariants.{Equal}

-- an order says Equal exactly if the two are equal
abbrev pub OrderAgrees : {X : Type 0} → (X → X → Option Ordering) → (X → X → Bool) → Type 0
OrderAgrees {X} cmp eq = (x y : X) → (cmp x y ≡ Some Equal) ↔ IsTrue (eq x y)
