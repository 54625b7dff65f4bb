-- What a reader was asked for.
use Rattle.std.specs.Prelude.{◌≡◌, ◌≤◌, ◌+◌, ◌⊎◌, ℕ, List, [], ◌∷◌, ◌++◌, Option, Some, IfSome}
use Rattle.std.specs.List.{All}
use Rattle.zone_index.specs.declared.read_at.Asked.{Asked}

-- so many bytes from an offset on
abbrev pub asked_at : ℕ → ℕ → Asked
asked_at place count = record { place = place; length = count }

-- it was asked for nothing more, or for so many bytes at an offset
abbrev pub AsksOnce : Option (List Asked) → Option (List Asked) → ℕ → ℕ → Type 0
AsksOnce old new place count = IfSome old (λ before. (new ≡ Some before) ⊎ (new ≡ Some (before ++ asked_at place count ∷ [])))

-- what it was asked for since is all so
abbrev pub Asks : (Asked → Type 0) → Option (List Asked) → Option (List Asked) → Type 0
Asks P old new = IfSome old (λ before. (more : List Asked) × (new ≡ Some (before ++ more)) × All P more)

-- these bytes stand from an offset up to another
abbrev pub IsWithin : ℕ → ℕ → Asked → Type 0
IsWithin from to a = (from ≤ a.place) × (a.place + a.length ≤ to)

abbrev pub AsksWithin : Option (List Asked) → Option (List Asked) → ℕ → ℕ → Type 0
AsksWithin old new from to = Asks (IsWithin from to) old new
