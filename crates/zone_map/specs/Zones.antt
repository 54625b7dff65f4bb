-- The zones of an index that is made anew or extended.
use Rattle.std.specs.Prelude.{◌≡◌, ◌<◌, ◌≤◌, ◌++◌, ℕ, List, [], ◌∷◌}
use Rattle.zone_index.specs.declared.zones.Zone.{Zone}

-- there is one zone, and its length, records, rows and statistics are those of this one
abbrev pub IsOnly : List Zone → Zone → Type 0
IsOnly [] zone = ⊥
IsOnly (only ∷ []) zone = (only.length ≡ zone.length) × (only.records ≡ zone.records) × (only.rows ≡ zone.rows) × (only.statistics.items ≡ zone.statistics.items)
IsOnly (one ∷ other ∷ more) zone = ⊥

-- a last zone of fewer records is taken away, and the next one begins where it did
pub record Reopens (size : ℕ) (old new : List Zone) (place : ℕ) : Type 0 where
  pub last : Zone
  pub parts : old ≡ new ++ last ∷ []
  pub few : last.records < size
  pub first : place ≡ last.first

-- there is no such zone, and the next one begins at the end
pub record GoesOn (size end : ℕ) (old new : List Zone) (place : ℕ) : Type 0 where
  pub same : new ≡ old
  pub full : (front : List Zone) (last : Zone) → old ≡ front ++ last ∷ [] → size ≤ last.records
  pub at_end : place ≡ end
