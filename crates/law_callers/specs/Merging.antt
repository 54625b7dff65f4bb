-- What contracts say of the steps of a merge.
use Rattle.std.specs.Prelude.{◌≡◌, Bool, true, false, List, ◌∷◌, Option, None, Some}
use Rattle.std.specs.Ordering.{is_lt}
use Rattle.std.specs.declared.cmp.Ordering.{Ordering}

-- whether the second of two lists has the next item, by the first items of both: the first list has none, or its is above
abbrev pub is_from_second : {X : Type 0} → (X → X → Ordering) → Option X → Option X → Bool
is_from_second cmp None y = true
is_from_second cmp (Some x) None = false
is_from_second cmp (Some x) (Some y) = is_lt (cmp y x)

-- x is taken from the front of the second list, or of the first
abbrev pub IsTakenFrom : {X : Type 0} → Bool → List X → List X → List X → List X → X → Type 0
IsTakenFrom true xs ys after_xs after_ys x = (after_xs ≡ xs) × (ys ≡ x ∷ after_ys)
IsTakenFrom false xs ys after_xs after_ys x = (xs ≡ x ∷ after_xs) × (after_ys ≡ ys)
