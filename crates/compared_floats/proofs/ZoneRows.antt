-- The rows of columns as a zone, none of which matches.
use Rattle.std.proofs.Common.{◌≡◌, ◌<◌, ◌+◌, ◌∙◌, inr, ℕ, zero, suc, List, [], ◌∷◌, Bool, true, false, Contains, Some, arith, ap, get_or, length, map, option_map, refl, slice_get, subst, sym, if◌then◌else◌}
use Rattle.std.proofs.Math.ListN.{get_or-map}
use Rattle.std.proofs.lemmas.List.{length-map}
use Rattle.std.proofs.lemmas.Option.{slice_get-map}
use Rattle.std.proofs.lemmas.Simd.{map-map}
use Rattle.std.specs.List.{filter}
use Rattle.arrow_columns.specs.Columns.{rows_in}
use Rattle.arrow_columns.specs.declared.columns.Column.{Column}
use Rattle.column_cells.specs.Contents.{contents_of_column}
use Rattle.column_cells.specs.Types.{type_of_column}
use Rattle.column_statistics.specs.Cells.{cells_of_column, typed_as}
use Rattle.filter_pruning.specs.Outcomes.{outcomes}
use Rattle.filter_pruning.specs.Pruning.{AreStatisticsOf, column}
use Rattle.filter_pruning.specs.Searching.{Zone, ZonesAreSearched, taken_of}
use Rattle.vortex_cells.specs.Cells.{Cell, cell_or_null}
use Rattle.vortex_filter.specs.Formula.{Formula, cell_at, is_match}
use Rattle.vortex_statistics.specs.Statistics.{AreRight}
use Rattle.vortex_value.specs.Values.Content.{Content, null}
use Rattle.compared_floats.specs.Compared.{AreLeftOut}

-- ---- rows

-- the cell of a row of a column, and of a row of columns
abbrev pub cell_in : ℕ → Column → Cell
cell_in row column = record { typed = type_of_column column; content = get_or (contents_of_column column) row null }

abbrev pub cells_in : List Column → ℕ → List Cell
cells_in columns row = map (cell_in row) columns

-- so many numbers, from k on
abbrev numbers_from : ℕ → ℕ → List ℕ
numbers_from k zero = []
numbers_from k (suc n) = k ∷ numbers_from (suc k) n

numbers_length : (k n : ℕ) → length (numbers_from k n) ≡ n
numbers_length k zero = refl
numbers_length k (suc n) = ap suc (numbers_length (suc k) n)

numbers_at : (k n i d : ℕ) → i < n → get_or (numbers_from k n) i d ≡ k + i
numbers_at k zero i d h = absurd (omega (arith, h))
numbers_at k (suc n) zero d h = omega arith
numbers_at k (suc n) (suc i) d h =
    let next : suc k + i ≡ k + suc i = omega arith in
    numbers_at (suc k) n i d (omega (arith, h)) ∙ next

-- what is read of the contents one by one is all of them
read_from : (F : ℕ → Cell) (f : Content → Cell) (xs : List Content) (k : ℕ) → ((i : ℕ) → i < length xs → F (k + i) ≡ f (get_or xs i null)) → map F (numbers_from k (length xs)) ≡ map f xs
read_from F f [] k h = refl
read_from F f (x ∷ xs) k h =
    let same : k ≡ k + 0 = omega arith in
    let here : F k ≡ f x = ap F same ∙ h 0 (omega arith) in
    let rest : map F (numbers_from (suc k) (length xs)) ≡ map f xs =
    read_from F f xs (suc k) (λ i within. let next : suc k + i ≡ k + suc i = omega arith in ap F next ∙ h (suc i) (omega (arith, within))) in
    ap (λ (y : Cell). y ∷ map F (numbers_from (suc k) (length xs))) here ∙ ap (λ (ys : List Cell). f x ∷ ys) rest

there_is : {A : Type 0} (xs : List A) (k : ℕ) → k < length xs → (x : A) × (slice_get xs k ≡ Some x)
there_is [] k h = absurd (omega (arith, h))
there_is (x ∷ xs) zero h = (x, refl)
there_is (x ∷ xs) (suc k) h = there_is xs k (omega (arith, h))

inside : {A : Type 0} (xs : List A) (k : ℕ) (x : A) → slice_get xs k ≡ Some x → k < length xs
inside [] k x e = absurd cc
inside (y ∷ ys) zero x e = omega arith
inside (y ∷ ys) (suc k) x e = let i = inside ys k x e in omega (arith, i)

-- the cell of a column in the row
pub cell_of_row : (columns : List Column) (k row : ℕ) (c : Column) → slice_get columns k ≡ Some c → cell_at (cells_in columns row) k ≡ cell_in row c
cell_of_row columns k row c e = ap cell_or_null (slice_get-map (cell_in row) columns k ∙ ap (option_map (cell_in row)) e)

-- all rows of columns
abbrev pub all_rows : List Column → List (List Cell)
all_rows columns = map (cells_in columns) (numbers_from 0 (rows_in columns))

column_cells : (columns : List Column) (k : ℕ) (c : Column) → slice_get columns k ≡ Some c → length (contents_of_column c) ≡ rows_in columns → column k (all_rows columns) ≡ cells_of_column c
column_cells columns k c there long =
    let F : ℕ → Cell = λ i. cell_at (cells_in columns i) k in
    map-map (λ (row : List Cell). cell_at row k) (cells_in columns) (numbers_from 0 (rows_in columns))
    ∙ ap (λ (n : ℕ). map F (numbers_from 0 n)) (sym long)
    ∙ read_from F (typed_as (type_of_column c)) (contents_of_column c) 0 (λ i within. let same : 0 + i ≡ i = omega arith in ap F same ∙ cell_of_row columns k i c there)

among_rows : (columns : List Column) (row : ℕ) → row < rows_in columns → Contains (all_rows columns) (cells_in columns row)
among_rows columns row within =
    let n = rows_in columns in
    let first : 0 + row ≡ row = omega arith in (
      row,
      omega (arith, within, length-map (numbers_from 0 n) (cells_in columns), numbers_length 0 n),
      get_or-map (cells_in columns) (numbers_from 0 n) row row ∙ ap (cells_in columns) (numbers_at 0 n row row within ∙ first),
    )

-- ---- the zone

statistics_right : (columns : List Column) (f : Formula) → (h : AreLeftOut columns f) → AreStatisticsOf h.statistics (all_rows columns)
statistics_right columns f h k s there =
    let l = inside h.statistics k s there in
    let c = there_is columns k (omega (arith, l, h.are.counts)) in
    inr (subst (AreRight s) (sym (column_cells columns k c.0 c.1 (h.are.even k c.0 c.1))) (h.are.right k c.0 s c.1 there))

none_taken : (f : Formula) (z : Zone) → (outcomes f z.statistics).may_be_true ≡ false → taken_of f z ≡ []
none_taken f z e = rw e

kept_first : (b : Bool) (y : List Cell) (ys : List (List Cell)) → (if b then y ∷ ys else ys) ≡ [] → (b ≡ false) × (ys ≡ [])
kept_first true y ys e = absurd cc
kept_first false y ys e = (refl, e)

none_left : (p : List Cell → Bool) (xs : List (List Cell)) (k : ℕ) (x : List Cell) → filter p xs ≡ [] → k < length xs → get_or xs k x ≡ x → p x ≡ false
none_left p [] k x e l h = absurd (omega (arith, l))
none_left p (y ∷ ys) zero x e l h = ap p (sym h) ∙ (kept_first (p y) y (filter p ys) e).0
none_left p (y ∷ ys) (suc k) x e l h = none_left p ys k x (kept_first (p y) y (filter p ys) e).1 (omega (arith, l)) h

-- no row of columns that are left out matches
pub unmatched : ZonesAreSearched → (columns : List Column) (f : Formula) (row : ℕ) → AreLeftOut columns f → row < rows_in columns → is_match f (cells_in columns row) ≡ false
unmatched searched columns f row h within =
    let z : Zone = record { statistics = h.statistics; rows = all_rows columns } in
    let nothing = sym (searched f z (statistics_right columns f h)) ∙ none_taken f z h.none in
    let there = among_rows columns row within in
    none_left (is_match f) (all_rows columns) there.0 (cells_in columns row) nothing there.1 there.2
