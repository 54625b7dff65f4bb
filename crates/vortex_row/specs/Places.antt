-- How two strings of bytes differ: at the first place where they do, which both have.
use Rattle.std.specs.Prelude.{◌≡◌, ℕ, ◌<◌, ◌⊎◌, List, ◌∷◌}
use Rattle.std.specs.declared.cmp.Ordering.{Ordering}
use Rattle.std.specs.declared.cmp.Ordering.TheVariants.{Less, Equal, Greater}

-- xs has a byte below that of ys at a place that both have, and they are one before it
abbrev pub IsBelow : List ℕ → List ℕ → Type 0
IsBelow (x ∷ xs) (y ∷ ys) = (x < y) ⊎ ((x ≡ y) × IsBelow xs ys)
IsBelow _ _ = ⊥

-- the two are one, or one is below the other
abbrev pub OrderedAs : Ordering → List ℕ → List ℕ → Type 0
OrderedAs Less xs ys = IsBelow xs ys
OrderedAs Equal xs ys = xs ≡ ys
OrderedAs Greater xs ys = IsBelow ys xs
