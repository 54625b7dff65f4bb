-- The columns that a formula names: its truth depends on no other.
use Rattle.std.specs.Prelude.{◌≡◌, ◌⊎◌, ◌↔◌, ℕ, ◌<◌, true, false, Bool, List, length, slice_index_or}
use Rattle.vortex_cells.specs.Cells.{Cell}
use Rattle.vortex_filter.specs.Formula.{Formula, both, cell_at, comparison, constant, either, membership, negation, null_test, pattern_test, prefix_test, range, truth}

-- the formula has a test of the column at this place
abbrev pub IsNamed : Formula → ℕ → Type 0
IsNamed (constant t) k = ⊥
IsNamed (comparison j op literal) k = j ≡ k
IsNamed (null_test j) k = j ≡ k
IsNamed (membership j literals) k = j ≡ k
IsNamed (range j lower upper) k = j ≡ k
IsNamed (prefix_test j prefix) k = j ≡ k
IsNamed (pattern_test j case parts) k = j ≡ k
IsNamed (both p q) k = IsNamed p k ⊎ IsNamed q k
IsNamed (either p q) k = IsNamed p k ⊎ IsNamed q k
IsNamed (negation p) k = IsNamed p k

-- the rows have the same cell in each column that the formula names
abbrev pub AgreeIn : Formula → List Cell → List Cell → Type 0
AgreeIn f xs ys = (k : ℕ) → IsNamed f k → cell_at xs k ≡ cell_at ys k

-- Rows that agree in the columns that a formula names have the same truth.
abbrev pub NamedColumnsDecide : Type 0
NamedColumnsDecide = (f : Formula) (xs ys : List Cell) → AgreeIn f xs ys → truth f xs ≡ truth f ys

-- ---- flags

-- the flag of the column is set
abbrev pub IsFlagged : List Bool → ℕ → Type 0
IsFlagged flags k = slice_index_or flags k false ≡ true

-- the new flags are as many as the old ones, and set are those that were and those of the columns that the formula names
pub record AreMarked (f : Formula) (old new : List Bool) : Type 0 where
  pub as_many : length new ≡ length old
  pub flags : (k : ℕ) → k < length old → IsFlagged new k ↔ (IsFlagged old k ⊎ IsNamed f k)
