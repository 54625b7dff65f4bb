-- Laws of an index.
use Rattle.std.specs.Prelude.{◌≡◌, ◌++◌, ℕ, List, Bool, drop, length}
use Rattle.csv_records.specs.Records.{records_of}
use Rattle.zone_index.specs.Zones.{Follow, IsIndexOf}
use Rattle.zone_index.specs.declared.zones.Zone.{Zone}

-- zones are an index of the bytes in front, more zones are one of what stands behind these, and no record goes on from one to
-- the other
pub record ArePartsOf (delimiter : ℕ) (has_row : List ℕ → Bool) (Describes : List ℕ → List (List ℕ) → Type 0) (start : ℕ) (zones more : List Zone) (front behind : List ℕ) : Type 0 where
  pub before : IsIndexOf delimiter has_row Describes start zones front
  pub ends : records_of delimiter (drop start front ++ behind) ≡ records_of delimiter (drop start front) ++ records_of delimiter behind
  pub after : IsIndexOf delimiter has_row Describes (length front) more (front ++ behind)

-- together they are an index of all
abbrev pub IndexesAreJoined : ℕ → (List ℕ → Bool) → (List ℕ → List (List ℕ) → Type 0) → Type 0
IndexesAreJoined delimiter has_row Describes = (start : ℕ) (zones more : List Zone) (front behind : List ℕ) → ArePartsOf delimiter has_row Describes start zones more front behind
    → IsIndexOf delimiter has_row Describes start (zones ++ more) (front ++ behind)

-- an index is parted so where one of its zones ends
abbrev pub IndexesAreParted : ℕ → (List ℕ → Bool) → (List ℕ → List (List ℕ) → Type 0) → Type 0
IndexesAreParted delimiter has_row Describes = (start : ℕ) (zones more : List Zone) (front behind : List ℕ) → IsIndexOf delimiter has_row Describes start (zones ++ more) (front ++ behind)
    → Follow start zones (length front) → ArePartsOf delimiter has_row Describes start zones more front behind
