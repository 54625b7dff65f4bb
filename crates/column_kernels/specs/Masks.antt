-- Which rows match, as bits: that of row i stands in byte i / 8, from the least significant one on.
use Rattle.std.specs.Prelude.{◌≡◌, ℕ, ◌*◌, ◌<◌, ◌≤◌, Bool, List, false}
use Rattle.arrow_columns.specs.Bitmaps.{bit_of, bitmap_length}
use Rattle.vortex_cells.specs.Cells.{Cell}
use Rattle.vortex_filter.specs.Formula.{Formula, is_match}

-- whether the formula matches a row, of rows of cells
abbrev pub matching : Formula → (ℕ → List Cell) → ℕ → Bool
matching f cells row = is_match f (cells row)

-- the bit of each of so many rows says whether it is one of these, and the bits after them are 0
pub record IsMask (is_one : ℕ → Bool) (count : ℕ) (mask : List ℕ) : Type 0 where
  pub rows : (row : ℕ) → row < count → bit_of mask row ≡ is_one row
  pub zeros : (row : ℕ) → count ≤ row → row < 8 * bitmap_length count → bit_of mask row ≡ false
