-- What is known of the rows of a column before row i.
use Rattle.std.specs.Prelude.{◌≡◌, ℕ, ℤ, ◌<◌, ◌≤◌, ◌≤ℤ◌, ◌-◌, List, Option, Some, map}
use Rattle.std.specs.List.{count_by, range_with_len}
use Rattle.std.specs.Option.{IfSome, is_none}
use Rattle.arrow_columns.specs.declared.extremes.Gathered.{Gathered}

-- how many of so many cells are null
abbrev pub nulls_from : {X : Type 0} → (ℕ → Option X) → ℕ → ℕ → ℕ
nulls_from cell from count = count_by is_none (map cell (range_with_len from count))

-- z is the value of a cell before row i, and above none of theirs
pub record IsLeastBefore (cell : ℕ → Option ℤ) (from i : ℕ) (z : ℤ) : Type 0 where
  pub among : (k : ℕ) × (from ≤ k) × (k < i) × (cell k ≡ Some z)
  pub below : (k : ℕ) → k < i → from ≤ k → IfSome (cell k) (λ x. z ≤ℤ x)

-- z is the value of a cell before row i, and below none of theirs
pub record IsGreatestBefore (cell : ℕ → Option ℤ) (from i : ℕ) (z : ℤ) : Type 0 where
  pub among : (k : ℕ) × (from ≤ k) × (k < i) × (cell k ≡ Some z)
  pub above : (k : ℕ) → k < i → from ≤ k → IfSome (cell k) (λ x. x ≤ℤ z)

-- the nulls, the least and the greatest value of the rows before row i
pub record AreGathered {T : Type 0} (number : T → ℤ) (cell : ℕ → Option ℤ) (from i : ℕ) (gathered : Gathered T) : Type 0 where
  pub nulls : gathered.null_count ≡ nulls_from cell from (i - from)
  pub within : gathered.null_count ≤ i - from
  pub least : IsLeastBefore cell from i (number gathered.least)
  pub greatest : IsGreatestBefore cell from i (number gathered.greatest)

-- row b has a value, which is in this relation to each value before row i
pub record IsBestAt (R : List ℕ → List ℕ → Type 0) (cell : ℕ → Option (List ℕ)) (value : ℕ → List ℕ) (from i b : ℕ) : Type 0 where
  pub from' : from ≤ b
  pub before : b < i
  pub is : cell b ≡ Some (value b)
  pub best : (k : ℕ) → k < i → from ≤ k → IfSome (cell k) (R (value b))
