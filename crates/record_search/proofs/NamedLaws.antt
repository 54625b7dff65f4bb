-- What a formula says of a record, from the cells of the columns that it names.
use Rattle.std.proofs.Common.{◌≡◌, ◌<◌, ◌≤◌, ℕ, zero, suc, ◌+◌, List, [], ◌∷◌, ◌++◌, Bool, is_some, length, true, false, Option, None, Some, refl, sym, ap, ◌∙◌, subst, map, arith, inl, inr, replicate}
use Rattle.std.specs.List.{slice_get}
use Rattle.std.proofs.lemmas.Bool.{cases_lt}
use Rattle.std.proofs.lemmas.List.{get_or_default, get_or_past, length-map, length-replicate}
use Rattle.record_rows.specs.Cells.{column_type}
use Rattle.record_rows.specs.Readings.{Reading, is_null_field}
use Rattle.record_rows.specs.Rows.{AreCellsIn, IsRowIn, IsTaken, IsTakenIf, fitted, is_wanted}
use Rattle.record_rows.specs.Wanted.{AreCellsWhere, AreWanted, HasWanted}
use Rattle.record_rows.specs.declared.schema.ColumnType.{ColumnType}
use Rattle.record_rows.specs.declared.schema.Schema.{Schema}
use Rattle.csv_records.specs.Rows.{Field, rows_of}
use Rattle.vortex_filter.specs.Formula.{Formula, cell_at}
use Rattle.vortex_filter.specs.Named.{AreMarked, IsNamed, NamedColumnsDecide}
use Rattle.vortex_filter.specs.Truths.{is_true}
use Rattle.vortex_cells.specs.Cells.{Cell, cell_of, cell_or_null}
use Rattle.vortex_value.specs.Values.Content.{Content, null}
use Rattle.vortex_value.specs.Values.Scalars.{scalar_content}
use Rattle.vortex_value.specs.declared.scalars.Scalar.{Scalar}
use Rattle.record_search.specs.Contents.{cell_before, cells_of, field_content, only_row, row_of}
use Rattle.record_search.specs.Named.{AgreeAsRows, AgreeInWanted}
use Rattle.record_search.specs.Searched.{has_row, matches_row, row_under}
use Rattle.record_search.proofs.RowLaws.{WordsSay, cell_field, cell_made, null_field, taken_field}

-- ---- rows of which some cells are wanted

-- the field is one that the column takes, and its cell is this one where it is wanted
record IsReadAs (w : Bool) (l : Reading) (column : ColumnType) (f : Field) (x : Scalar) : Type 0 where
  content : Content
  is : field_content l column f ≡ Some content
  cell : w ≡ true → cell_of x ≡ record { typed = column_type column; content = content }

taken_as : WordsSay → (w : Bool) (l : Reading) (column : ColumnType) (f : Field) (x : Scalar) (b : Bool) → IsTakenIf w l column f x b → IsReadAs w l column f x
taken_as say true l column f x b h =
    let one = taken_field say l column f x b h in
    record { content = scalar_content x; is = one.content; cell = λ e. cell_made column x one.typed }
taken_as say false l column f x false h = record { content = h.0; is = cell_field say l column f h.0 (is_null_field l column.nullability f) refl h.1; cell = λ e. absurd cc }
taken_as say false l column f x true h = record { content = null; is = null_field say l column f (is_null_field l column.nullability f) refl h.0 h.2 h.1; cell = λ e. absurd cc }

-- the cells from column k on are computed, and are these where they are wanted
record AreReadAs (w : List Bool) (k : ℕ) (l : Reading) (cs : List ColumnType) (fs : List Field) (xs : List Scalar) : Type 0 where
  cells : List Cell
  is : cells_of l cs fs ≡ Some cells
  agree : (i j : ℕ) → j ≡ k + i → is_wanted w j ≡ true → cell_at (map cell_of xs) i ≡ cell_at cells i

read_as : WordsSay → (w : List Bool) (k : ℕ) (l : Reading) (cs : List ColumnType) (fs : List Field) (xs : List Scalar) (bs : List Bool) → AreCellsIn w k l cs fs xs bs → AreReadAs w k l cs fs xs
read_as say w k l [] [] [] [] h = record { cells = []; is = refl; agree = λ i j e t. refl }
read_as say w k l [] [] [] (b ∷ bs) h = absurd h
read_as say w k l [] [] (x ∷ xs) bs h = absurd h
read_as say w k l [] (f ∷ fs) xs bs h = absurd h
read_as say w k l (c ∷ cs) [] xs bs h = absurd h
read_as say w k l (c ∷ cs) (f ∷ fs) [] bs h = absurd h
read_as say w k l (c ∷ cs) (f ∷ fs) (x ∷ xs) [] h = absurd h
read_as say w k l (c ∷ cs) (f ∷ fs) (x ∷ xs) (b ∷ bs) h =
    let one = taken_as say (is_wanted w k) l c f x b h.0 in
    let rest = read_as say w (suc k) l cs fs xs bs h.1 in
    record {
      cells = record { typed = column_type c; content = one.content } ∷ rest.cells;
      is = rw (one.is, rest.is) refl;
      agree = agrees one rest;
    }
  where
    agrees : (one : IsReadAs (is_wanted w k) l c f x) (rest : AreReadAs w (suc k) l cs fs xs) (i j : ℕ) → j ≡ k + i → is_wanted w j ≡ true
        → cell_at (cell_of x ∷ map cell_of xs) i ≡ cell_at (record { typed = column_type c; content = one.content } ∷ rest.cells) i
    agrees one rest zero j e t = let same : j ≡ k = omega (arith, e) in one.cell (subst (λ (n : ℕ). is_wanted w n ≡ true) same t)
    agrees one rest (suc i) j e t = rest.agree i j (omega (arith, e)) t

pub row_agrees : WordsSay → (w : List Bool) (d : ℕ) (l : Reading) (columns : List ColumnType) (line : List ℕ) (row : List Scalar) (n : ℕ) → IsRowIn w d l columns line row n → AgreeAsRows w (Some (map cell_of row)) (row_of d l columns line)
row_agrees say w d l columns line row n h =
    let read = read_as say w 0 l columns (fitted l.is_lenient columns h.fields) row h.flags h.cells in
    let is : row_of d l columns line ≡ Some read.cells = ap (only_row l columns) h.is ∙ read.is in
    subst (AgreeAsRows w (Some (map cell_of row))) (sym is) (λ k t. read.agree k k (omega arith) t)

-- ---- a record that has a row, of which only some cells are read

before_parts : (column : ColumnType) (o : Option Content) (r : Option (List Cell)) (xs : List Cell) → cell_before column o r ≡ Some xs → (c : Content) × (cells : List Cell) × (o ≡ Some c) × (r ≡ Some cells) × (xs ≡ record { typed = column_type column; content = c } ∷ cells)
before_parts column (Some c) (Some cells) xs e = (c, cells, refl, refl, cc)
before_parts column (Some c) None xs e = absurd cc
before_parts column None r xs e = absurd cc

cells_long : (l : Reading) (cs : List ColumnType) (fs : List Field) (xs : List Cell) → cells_of l cs fs ≡ Some xs → length xs ≡ length cs
cells_long l [] [] [] e = refl
cells_long l [] [] (x ∷ xs) e = absurd cc
cells_long l [] (f ∷ fs) xs e = absurd cc
cells_long l (c ∷ cs) [] xs e = absurd cc
cells_long l (c ∷ cs) (f ∷ fs) xs e =
    let p = before_parts c (field_content l c f) (cells_of l cs fs) xs e in
    omega (arith, ap length p.4, cells_long l cs fs p.1 p.3)

same_content : (c d : Content) → Some c ≡ Some d → c ≡ d
same_content c d e = cc

cell_is : WordsSay → (l : Reading) (column : ColumnType) (f : Field) (x : Scalar) (c : Content) → (flag : Bool) × IsTaken l column f x flag → field_content l column f ≡ Some c → cell_of x ≡ record { typed = column_type column; content = c }
cell_is say l column f x c h e =
    let one = taken_field say l column f x h.0 h.1 in
    cell_made column x one.typed ∙ ap (λ (d : Content). let made : Cell = record { typed = column_type column; content = d } in made) (same_content (scalar_content x) c (sym one.content ∙ e))

where_agree : WordsSay → (w : List Bool) (k : ℕ) (l : Reading) (cs : List ColumnType) (fs more : List Field) (xs : List Scalar) (cells : List Cell) → AreCellsWhere w k l cs fs xs → cells_of l cs (fs ++ more) ≡ Some cells
    → (i j : ℕ) → j ≡ k + i → is_wanted w j ≡ true → i < length fs → cell_at (map cell_of xs) i ≡ cell_at cells i
where_agree say w k l cs [] more xs cells h e i j at wants below = absurd (omega (arith, below))
where_agree say w k l [] (f ∷ fs) more xs cells h e i j at wants below = absurd h
where_agree say w k l (c ∷ cs) (f ∷ fs) more [] cells h e i j at wants below = absurd h
where_agree say w k l (c ∷ cs) (f ∷ fs) more (x ∷ xs) cells h e zero j at wants below =
    let p = before_parts c (field_content l c f) (cells_of l cs (fs ++ more)) cells e in
    let same : j ≡ k = omega (arith, at) in
    cell_is say l c f x p.0 (h.0 (subst (λ (n : ℕ). is_wanted w n ≡ true) same wants)) p.2 ∙ ap (λ (ys : List Cell). cell_at ys 0) (sym p.4)
where_agree say w k l (c ∷ cs) (f ∷ fs) more (x ∷ xs) cells h e (suc i) j at wants below =
    let p = before_parts c (field_content l c f) (cells_of l cs (fs ++ more)) cells e in
    where_agree say w (suc k) l cs fs more xs p.1 h.1 p.3 i j (omega (arith, at)) wants (omega (arith, below)) ∙ ap (λ (ys : List Cell). cell_at ys (suc i)) (sym p.4)

-- behind the last column no cell is
cell_past : (row : List Cell) (k : ℕ) (other : List Cell) → length row ≤ k → length other ≤ k → cell_at row k ≡ cell_at other k
cell_past row k other past beyond = ap cell_or_null (none_at row k past ∙ sym (none_at other k beyond))
  where
    none_at : (xs : List Cell) (i : ℕ) → length xs ≤ i → slice_get xs i ≡ None
    none_at [] i h = refl
    none_at (x ∷ xs) zero h = absurd (omega (arith, h))
    none_at (x ∷ xs) (suc i) h = none_at xs i (omega (arith, h))

wanted_in : WordsSay → (w : List Bool) (l : Reading) (columns : List ColumnType) (rows : List (List Field)) (row : List Scalar) (cells : List Cell) → AreWanted w l columns rows row → only_row l columns rows ≡ Some cells → AgreeInWanted w (map cell_of row) cells
wanted_in say w l columns [] row cells h e = absurd cc
wanted_in say w l columns (all ∷ []) row cells h e = λ k wants.
    let first = h.first all refl in
    let is : cells_of l columns (h.fields ++ first.0) ≡ Some cells = ap (cells_of l columns) (sym first.1) ∙ e in
    elim (cases_lt k (length columns)) [
      | inl below ↦ where_agree say w 0 l columns h.fields first.0 row cells h.cells is k k (omega arith) wants (h.past k wants below)
      | inr past ↦ cell_past (map cell_of row) k cells (omega (arith, past, h.few, length-map row cell_of)) (omega (arith, past, cells_long l columns (h.fields ++ first.0) cells is))
    ]
wanted_in say w l columns (all ∷ next ∷ others) row cells h e = absurd cc

-- where the record has a row, the cells that were read are its own where they are wanted
pub wanted_agrees : WordsSay → (w : List Bool) (s : Schema) (line : List ℕ) (row : List Scalar) (b : Bool) → (b ≡ true → HasWanted w s.delimiter.byte s.reading s.columns.items line row) → b ≡ true → has_row s line ≡ true → AgreeAsRows w (Some (map cell_of row)) (row_under s line)
wanted_agrees say w s line row b h read has = by_row (row_under s line) refl
  where
    no_row_there : (o : Option (List Cell)) → o ≡ None → is_some o ≡ true → ⊥
    no_row_there None e t = absurd cc
    no_row_there (Some x) e t = absurd cc

    by_row : (o : Option (List Cell)) → row_under s line ≡ o → AgreeAsRows w (Some (map cell_of row)) (row_under s line)
    by_row None e = absurd (no_row_there (row_under s line) e has)
    by_row (Some cells) e = rw e (wanted_in say w s.reading s.columns.items (rows_of s.delimiter.byte line) row cells (h read) e)

-- ---- truth

-- a column that the formula names is wanted, of flags that none was before
named_wanted : (f : Formula) (n k : ℕ) (flags : List Bool) → AreMarked f (replicate n false) flags → IsNamed f k → is_wanted flags k ≡ true
named_wanted f n k flags marked named = elim (cases_lt k n) [
  | inl l ↦
      let many = length-replicate n false in
      get_or_default flags k true false (omega (arith, marked.as_many, many)) ∙ (marked.flags k (omega (arith, many))).1 (inr named)
  | inr l ↦ get_or_past flags k true (omega (arith, marked.as_many, length-replicate n false))
]

-- the truth on such a row is that on the record's
pub match_is : NamedColumnsDecide → (f : Formula) (n : ℕ) (wanted flags : List Bool) (row there : Option (List Cell)) → wanted ≡ flags → AreMarked f (replicate n false) flags → AgreeAsRows wanted row there
    → matches_row f row ≡ matches_row f there
match_is decide f n wanted flags None None e marked h = refl
match_is decide f n wanted flags None (Some ys) e marked h = absurd h
match_is decide f n wanted flags (Some xs) None e marked h = absurd h
match_is decide f n wanted flags (Some xs) (Some ys) e marked h =
    ap is_true (decide f xs ys (λ k named. h k (ap (λ w. is_wanted w k) e ∙ named_wanted f n k flags marked named)))
