-- Which rows of a column have numbers within a range.
use Rattle.std.specs.Prelude.{◌≡◌, ℕ, ℤ, ◌<◌, ◌≤ℤ◌, List, slice_get, Option, Some}

-- the number is in the range
abbrev pub IsWithin : ℤ → ℤ → ℤ → Type 0
IsWithin least greatest z = (least ≤ℤ z) × (z ≤ℤ greatest)

-- the numbers of the cells before a row are in the range; those of a null have none
abbrev pub AreWithinBefore : ℤ → ℤ → List (Option ℤ) → ℕ → Type 0
AreWithinBefore least greatest cells row = (k : ℕ) (z : ℤ) → k < row → slice_get cells k ≡ Some (Some z) → IsWithin least greatest z

-- the cell of this row, the first such one, has a number outside of the range
pub record IsFirstOutside (least greatest : ℤ) (cells : List (Option ℤ)) (row : ℕ) : Type 0 where
  pub number : ℤ
  pub stands : slice_get cells row ≡ Some (Some number)
  pub outside : ¬ (IsWithin least greatest number)
  pub before : AreWithinBefore least greatest cells row
