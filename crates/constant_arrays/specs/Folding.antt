-- What is left of a filter over a table, if some of its columns are constant.
use Rattle.std.specs.Prelude.{◌≡◌, ℕ, Bool, true, false, List, slice_index_or}
use Rattle.vortex_cells.specs.Cells.{Cell}
use Rattle.vortex_filter.specs.Formula.{Formula, constant, comparison, null_test, membership, range, prefix_test, pattern_test, both, either, negation, cell_at, truth}
use Rattle.vortex_filter.specs.Named.{IsNamed}

-- whether the column at a place is constant
abbrev pub is_flagged : List Bool → ℕ → Bool
is_flagged flags k = slice_index_or flags k false

-- a test of a constant column, decided on a row that has the constants; any other stays
abbrev pub decided : Bool → List Cell → Formula → Formula
decided true row test = constant (truth test row)
decided false row test = test

-- each test of a constant column is decided on the row
abbrev pub folded : List Bool → List Cell → Formula → Formula
folded flags row (constant t) = constant t
folded flags row (comparison k op x) = decided (is_flagged flags k) row (comparison k op x)
folded flags row (null_test k) = decided (is_flagged flags k) row (null_test k)
folded flags row (membership k xs) = decided (is_flagged flags k) row (membership k xs)
folded flags row (range k x y) = decided (is_flagged flags k) row (range k x y)
folded flags row (prefix_test k p) = decided (is_flagged flags k) row (prefix_test k p)
folded flags row (pattern_test k case parts) = decided (is_flagged flags k) row (pattern_test k case parts)
folded flags row (both f g) = both (folded flags row f) (folded flags row g)
folded flags row (either f g) = either (folded flags row f) (folded flags row g)
folded flags row (negation f) = negation (folded flags row f)

-- In each column that the formula names, a row of a table has a constant if the column is constant, and else the cell of
-- another row.
pub record IsRowWithConstants (flags : List Bool) (f : Formula) (constants other row : List Cell) : Type 0 where
  pub flagged : (k : ℕ) → IsNamed f k → is_flagged flags k ≡ true → cell_at row k ≡ cell_at constants k
  pub unflagged : (k : ℕ) → IsNamed f k → is_flagged flags k ≡ false → cell_at row k ≡ cell_at other k

-- What is left says of the rest of each row what the formula says of the whole row.
abbrev pub SaysTheSame : List Bool → List Cell → Formula → Formula → Type 0
SaysTheSame flags constants f left =
    (other row : List Cell) → IsRowWithConstants flags f constants other row → truth left other ≡ truth f row

-- the formula names this column, which is not constant
pub record IsNamedOther (flags : List Bool) (f : Formula) (k : ℕ) : Type 0 where
  pub named : IsNamed f k
  pub unflagged : is_flagged flags k ≡ false
