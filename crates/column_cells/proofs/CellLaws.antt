-- The cells of a column, one by one and as a list.
use Rattle.std.proofs.Common.{◌≡◌, ◌∙◌, ℕ, ◌+◌, ◌<◌, map, length, arith, ap, refl, subst, sym, Option, Some, None, slice_get, true, false, Bool, if◌then◌else◌}
use Rattle.std.proofs.lemmas.List.FromFn.{get_or-map-range_with_len, length-map-range_with_len}
use Rattle.std.proofs.lemmas.Option.{slice_get-get_or}
use Rattle.std.specs.List.{All, range_with_len}
use Rattle.std.specs.Option.{IfSome}

same_value : {X : Type 0} (x y : X) → Some x ≡ Some y → x ≡ y
same_value x y e = cc

-- the cell of a row is that of the list
pub cell_is : {X : Type 0} (cell : ℕ → Option X) (from n row : ℕ) (o : Option X) → row < n → slice_get (map cell (range_with_len from n)) row ≡ Some o → cell (from + row) ≡ o
cell_is cell from n row o l e =
    let cells = map cell (range_with_len from n) in
    let within : row < length cells = omega (arith, l, length-map-range_with_len cell from n) in
    let got : slice_get cells row ≡ Some (cell (from + row)) = slice_get-get_or cells row None within ∙ ap Some (get_or-map-range_with_len cell from n row (from + row) None l refl) in
    same_value (cell (from + row)) o (sym got ∙ e)

-- what holds of each cell by its number holds of the list
pub all_cells : {X : Type 0} (P : Option X → Type 0) (cell : ℕ → Option X) (from n : ℕ) → ((k : ℕ) → k < n → P (cell (from + k))) → All P (map cell (range_with_len from n))
all_cells P cell from n h = λ k d l.
    let within : k < n = omega (arith, l, length-map-range_with_len cell from n) in
    subst P (sym (get_or-map-range_with_len cell from n k (from + k) d within refl)) (h k within)

-- what holds of each value holds of each cell that is no null
pub of_value : {X : Type 0} (P : X → Type 0) (b : Bool) (x : X) → (b ≡ true → P x) → IfSome (if b then Some x else None) P
of_value P true x h = h refl
of_value P false x h = tt
