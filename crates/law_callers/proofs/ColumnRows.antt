-- The rows of columns, one by one, and the cells of each column in them.
use Rattle.std.proofs.Common.{◌≡◌, ◌<◌, ◌+◌, ◌∙◌, ℕ, zero, suc, List, [], ◌∷◌, Contains, Some, arith, ap, get_or, length, map, option_map, refl, slice_get, subst, sym}
use Rattle.std.proofs.Math.ListN.{get_or-map}
use Rattle.std.proofs.lemmas.List.{length-map}
use Rattle.std.proofs.lemmas.Option.{get_or_from_slice_get, slice_get-map}
use Rattle.std.proofs.lemmas.Simd.{map-map}
use Rattle.arrow_columns.specs.Columns.{rows_in}
use Rattle.arrow_columns.specs.declared.columns.Column.{Column}
use Rattle.column_cells.specs.Contents.{contents_of_column}
use Rattle.column_cells.specs.Types.{type_of_column}
use Rattle.column_filters.specs.Tables.{cell_of_column, cells_of_columns}
use Rattle.column_filters.specs.Zones.{piece_at}
use Rattle.column_statistics.specs.Cells.{cells_of_column, typed_as}
use Rattle.column_statistics.specs.Laws.{AreRightBytes}
use Rattle.vortex_cells.specs.Cells.{Cell, cell_or_null}
use Rattle.vortex_dtype.specs.TypeTree.{TypeTree, null_type}
use Rattle.vortex_filter.specs.Formula.{cell_at}
use Rattle.vortex_value.specs.Values.Content.{Content, null}
use Rattle.filter_pruning.specs.Pruning.{column}
use Rattle.law_callers.specs.Pieces.{AreEven, ArePiecesOf, AreWrittenRight}

-- so many numbers, from k on
abbrev numbers_from : ℕ → ℕ → List ℕ
numbers_from k zero = []
numbers_from k (suc n) = k ∷ numbers_from (suc k) n

numbers_length : (k n : ℕ) → length (numbers_from k n) ≡ n
numbers_length k zero = refl
numbers_length k (suc n) = ap suc (numbers_length (suc k) n)

numbers_at : (k n i d : ℕ) → i < n → get_or (numbers_from k n) i d ≡ k + i
numbers_at k zero i d h = absurd (omega (arith, h))
numbers_at k (suc n) zero d h = omega arith
numbers_at k (suc n) (suc i) d h =
    let next : suc k + i ≡ k + suc i = omega arith in
    numbers_at (suc k) n i d (omega (arith, h)) ∙ next

-- what is read of the contents one by one is all of them
read_from : (F : ℕ → Cell) (f : Content → Cell) (xs : List Content) (k : ℕ) → ((i : ℕ) → i < length xs → F (k + i) ≡ f (get_or xs i null)) → map F (numbers_from k (length xs)) ≡ map f xs
read_from F f [] k h = refl
read_from F f (x ∷ xs) k h =
    let same : k ≡ k + 0 = omega arith in
    let here : F k ≡ f x = ap F same ∙ h 0 (omega arith) in
    let rest : map F (numbers_from (suc k) (length xs)) ≡ map f xs =
    read_from F f xs (suc k) (λ i within. let next : suc k + i ≡ k + suc i = omega arith in ap F next ∙ h (suc i) (omega (arith, within))) in
    ap (λ (y : Cell). y ∷ map F (numbers_from (suc k) (length xs))) here ∙ ap (λ (ys : List Cell). f x ∷ ys) rest

there_is : (columns : List Column) (k : ℕ) → k < length columns → (c : Column) × (slice_get columns k ≡ Some c)
there_is [] k h = absurd (omega (arith, h))
there_is (c ∷ columns) zero h = (c, refl)
there_is (c ∷ columns) (suc k) h = there_is columns k (omega (arith, h))

mapped_at : {B : Type 0} (f : Column → B) (columns : List Column) (k : ℕ) (c : Column) → slice_get columns k ≡ Some c → slice_get (map f columns) k ≡ Some (f c)
mapped_at f columns k c e = slice_get-map f columns k ∙ ap (option_map f) e

-- all rows of columns
abbrev pub all_rows : List Column → List (List Cell)
all_rows columns = map (cells_of_columns columns) (numbers_from 0 (rows_in columns))

column_cells : (columns : List Column) (k : ℕ) (c : Column) → slice_get columns k ≡ Some c → length (contents_of_column c) ≡ rows_in columns → column k (all_rows columns) ≡ cells_of_column c
column_cells columns k c there long =
    let F : ℕ → Cell = λ i. cell_at (cells_of_columns columns i) k in
    let at : (i : ℕ) → F i ≡ cell_of_column i c = λ i. ap cell_or_null (mapped_at (cell_of_column i) columns k c there) in
    map-map (λ (row : List Cell). cell_at row k) (cells_of_columns columns) (numbers_from 0 (rows_in columns))
    ∙ ap (λ (n : ℕ). map F (numbers_from 0 n)) (sym long)
    ∙ read_from F (typed_as (type_of_column c)) (contents_of_column c) 0 (λ i within. let same : 0 + i ≡ i = omega arith in ap F same ∙ at i)

pub among_rows : (columns : List Column) (row : ℕ) → row < rows_in columns → Contains (all_rows columns) (cells_of_columns columns row)
among_rows columns row within =
    let n = rows_in columns in
    let first : 0 + row ≡ row = omega arith in (
      row,
      omega (arith, within, length-map (numbers_from 0 n) (cells_of_columns columns), numbers_length 0 n),
      get_or-map (cells_of_columns columns) (numbers_from 0 n) row row ∙ ap (cells_of_columns columns) (numbers_at 0 n row row within ∙ first),
    )

pub rows_right : (columns : List Column) (bytes offsets : List ℕ) (p : ℕ) → AreEven columns → ArePiecesOf columns bytes offsets p → AreWrittenRight (map type_of_column columns) bytes offsets p (all_rows columns)
rows_right columns bytes offsets p even pieces k within =
    let inside : k < length columns = omega (arith, within, length-map columns type_of_column) in
    let at = there_is columns k inside in
    let c : Column = at.0 in
    let typed : get_or (map type_of_column columns) k null_type ≡ type_of_column c = get_or_from_slice_get (map type_of_column columns) k (type_of_column c) null_type (mapped_at type_of_column columns k c at.1) in
    let cells : column k (all_rows columns) ≡ cells_of_column c = column_cells columns k c at.1 (even k c at.1).even in
    subst (λ (t : TypeTree). AreRightBytes t (piece_at bytes offsets (p + k)) (column k (all_rows columns))) (sym typed)
    (subst (AreRightBytes (type_of_column c) (piece_at bytes offsets (p + k))) (sym cells) (pieces k c at.1))
