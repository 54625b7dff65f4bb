-- Steps of reading the columns that a filter is asked of.
use Rattle.std.proofs.Common.{◌≡◌, ℕ, zero, suc, ◌+◌, ◌<◌, ◌≤◌, inl, inr, Bool, true, false, List, [], ◌∷◌, ◌++◌, length, replicate, take, get_or, map, refl, sym, subst, ap, ap₂, ◌∙◌, arith, true≢false}
use Rattle.std.specs.Global.{Global}
use Rattle.std.specs.Prelude.{slice_index_or, Result, Ok, Err, IsErr, IsErrAnd, IfErr, Vec}
use Rattle.std.specs.List.{All}
use Rattle.std.proofs.lemmas.Bool.{cases_lt}
use Rattle.std.proofs.lemmas.List.{get_or-map, get_or-replicate, length-append, length-map, length-replicate, length-take, map-append, take_more}
use Rattle.std.proofs.lemmas.List.Elements.{All-nil, All-push}
use Rattle.arrow_columns.specs.declared.columns.Column.{Column}
use Rattle.arrow_columns.specs.declared.tested_rows.Rows.{Rows}
use Rattle.vortex_dtype.specs.TypeOf.{type_of}
use Rattle.vortex_dtype.specs.TypeTree.{TypeTree, null_type}
use Rattle.vortex_dtype.specs.declared.types.DType.{DType}
use Rattle.vortex_value.specs.Values.Content.{Content, null}
use Rattle.vortex_cells.specs.Cells.{Cell}
use Rattle.vortex_filter.specs.Formula.{Formula, cell_at}
use Rattle.arrow_columns.specs.declared.tested_rows.Rows.TheVariants.{Nulls}
use Rattle.column_cells.specs.Contents.{HasTexts, contents_of_rows}
use Rattle.column_cells.proofs.TableSteps.{first-error, sound-more}
use Rattle.vortex_filter.specs.Named.{AgreeIn, AreMarked, IsNamed}
use Rattle.column_filters.specs.Tables.{AreColumnsOf, AreReadFrom, AreSoundBefore, IsErrorAt, IsReadFrom, IsReadIf, IsSoundAt, IsTableError, cell_of_column, cells_of_columns}
use Rattle.column_kernels.specs.Words.{cell_of_row, cells_of_row}
use Rattle.column_filters.specs.declared.errors.MaskError.{MaskError}
use Rattle.column_filters.specs.declared.errors.MaskError.TheVariants.{BufferTooSmall, OutOfMemory, TypesDiffer, Unreadable, WrongCount, WrongLength}

-- ---- the type at a place

pub typed_at : (types : List DType) (k : ℕ) (u : DType) → k < length types → u ≡ get_or types k u → type_of u ≡ get_or (map type_of types) k null_type
typed_at types k u l is = ap type_of is ∙ sym (get_or-map type_of types k u null_type l)

pub read_if_typed : (types : List DType) (k : ℕ) (u : DType) (b : Bool) (column : Column) (count : ℕ) (rows : Rows) → k < length types → u ≡ get_or types k u → IsReadIf b column (type_of u) count rows
    → IsReadIf b column (get_or (map type_of types) k null_type) count rows
read_if_typed types k u b column count rows l is read = subst (λ t. IsReadIf b column t count rows) (typed_at types k u l is) read

fault_typed : (types : List DType) (k : ℕ) (u : DType) (column : Column) (count : ℕ) (fault : MaskError) → k < length types → u ≡ get_or types k u → IsErrorAt k column (type_of u) count fault → IsErrorAt k column (get_or (map type_of types) k null_type) count fault
fault_typed types k u column count fault l is h = subst (λ t. IsErrorAt k column t count fault) (typed_at types k u l is) h

-- ---- columns, one by one

pub read-none : (f : Formula) (columns : List Column) (count : ℕ) → AreReadFrom f columns count 0 []
read-none f columns count = record { cells = λ row k n. refl; rows = All-nil _ }

-- one more

same-cell : (row : ℕ) (column : Column) (t : TypeTree) (count : ℕ) (rows : Rows) → IsReadFrom column t count rows → cell_of_row rows row ≡ cell_of_column row column
same-cell row column t count rows read =
    let cell : TypeTree → List Content → Cell = λ u xs. record { typed = u; content = slice_index_or xs row null } in
    ap₂ cell read.typed read.contents

-- the cells of lists that are as long, and of one more
cell-before : (xs : List Cell) (x : Cell) (k : ℕ) → k < length xs → cell_at (xs ++ x ∷ []) k ≡ cell_at xs k
cell-before [] x k l = absurd (omega arith)
cell-before (y ∷ xs) x zero l = refl
cell-before (y ∷ xs) x (suc k) l = cell-before xs x k (omega arith)

cell-last : (xs : List Cell) (x : Cell) (k : ℕ) → k ≡ length xs → cell_at (xs ++ x ∷ []) k ≡ x
cell-last [] x zero e = refl
cell-last [] x (suc k) e = absurd (omega arith)
cell-last (y ∷ xs) x zero e = absurd (omega arith)
cell-last (y ∷ xs) x (suc k) e = cell-last xs x k (omega arith)

cell-past : (xs : List Cell) (k : ℕ) → length xs ≤ k → cell_at xs k ≡ cell_at [] k
cell-past [] k l = refl
cell-past (y ∷ xs) zero l = absurd (omega arith)
cell-past (y ∷ xs) (suc k) l = cell-past xs k (omega arith)

agree-more : (f : Formula) (xs ys : List Cell) (x y : Cell) → length xs ≡ length ys → AgreeIn f xs ys → (IsNamed f (length xs) → x ≡ y) → AgreeIn f (xs ++ x ∷ []) (ys ++ y ∷ [])
agree-more f xs ys x y e h same k n = elim (cases_lt k (length xs)) [
  | inl l ↦ cell-before xs x k l ∙ h k n ∙ sym (cell-before ys y k (omega arith))
  | inr l ↦ elim (cases_lt (length xs) k) [
    | inl m ↦ cell-past (xs ++ x ∷ []) k (omega (arith, length-append xs (x ∷ []))) ∙ sym (cell-past (ys ++ y ∷ []) k (omega (arith, length-append ys (y ∷ []))))
    | inr m ↦
        let at : k ≡ length xs = omega arith in
        cell-last xs x k at ∙ same (subst (IsNamed f) at n) ∙ sym (cell-last ys y k (omega arith))
  ]
]

-- a column that is read is one of so many rows
pub read-more : (f : Formula) (columns : List Column) (count k : ℕ) (d : Column) (table more : List Rows) (rows : Rows) → k < length columns → length table ≡ k
    → AreReadFrom f columns count k table → ((row : ℕ) → IsNamed f k → cell_of_row rows row ≡ cell_of_column row (get_or columns k d)) → (length (contents_of_rows rows) ≡ count) × HasTexts rows
    → more ≡ table ++ rows ∷ [] → AreReadFrom f columns count (k + 1) more
read-more f columns count k d table more rows here many all one good e = record {
  cells = λ row.
      subst (λ xs. AgreeIn f xs (cells_of_columns (take (k + 1) columns) row)) (sym (ap (λ xs. cells_of_row xs row) e ∙ map-append (λ (r : Rows). cell_of_row r row) table (rows ∷ [])))
      (subst (λ ys. AgreeIn f (cells_of_row table row ++ cell_of_row rows row ∷ []) ys)
      (sym (ap (λ xs. cells_of_columns xs row) (take_more columns k d here) ∙ map-append (cell_of_column row) (take k columns) (get_or columns k d ∷ [])))
      (agree-more f (cells_of_row table row) (cells_of_columns (take k columns) row) (cell_of_row rows row) (cell_of_column row (get_or columns k d))
      (omega (arith, length-map table (λ (r : Rows). cell_of_row r row), length-map (take k columns) (cell_of_column row), length-take k columns)) (all.cells row)
      (λ n. one row (subst (IsNamed f) (omega (arith, length-map table (λ (r : Rows). cell_of_row r row))) n))));
  rows = subst (λ t. All (λ r. (length (contents_of_rows r) ≡ count) × HasTexts r) t) (sym e) (All-push (λ r. (length (contents_of_rows r) ≡ count) × HasTexts r) table rows all.rows good);
}

-- a column that the formula names, and one that it does not name
pub read-named : (f : Formula) (columns : List Column) (t : TypeTree) (count k : ℕ) (d : Column) (table more : List Rows) (rows : Rows) → k < length columns → length table ≡ k
    → AreReadFrom f columns count k table → IsReadFrom (get_or columns k d) t count rows → more ≡ table ++ rows ∷ [] → AreReadFrom f columns count (k + 1) more
read-named f columns t count k d table more rows here many all one e =
    read-more f columns count k d table more rows here many all (λ row n. same-cell row (get_or columns k d) t count rows one) (ap length one.contents ∙ one.sound.even, one.texts) e

pub read-other : (f : Formula) (columns : List Column) (count k : ℕ) (d : Column) (table more : List Rows) → k < length columns → length table ≡ k
    → AreReadFrom f columns count k table → ¬ (IsNamed f k) → more ≡ table ++ Nulls count ∷ [] → AreReadFrom f columns count (k + 1) more
read-other f columns count k d table more here many all other e =
    read-more f columns count k d table more (Nulls count) here many all (λ row n. absurd (other n)) (length-replicate count null, tt) e

-- a column by its flag
pub flag_is : (k : ℕ) (b : Bool) (given flags : List Bool) → b ≡ get_or given k false → given ≡ flags → get_or flags k false ≡ b
flag_is k b given flags is same = sym (is ∙ ap (λ xs. get_or xs k false) same)

pub is_named : (f : Formula) (n k : ℕ) (flags : List Bool) → AreMarked f (replicate n false) flags → k < n → get_or flags k false ≡ true → IsNamed f k
is_named f n k flags marked l e = elim ((marked.flags k (omega (arith, length-replicate n false))).0 e) [ inl o ↦ absurd (true≢false (sym o ∙ get_or-replicate n k false false l)) | inr h ↦ h ]

not_named : (f : Formula) (n k : ℕ) (flags : List Bool) → AreMarked f (replicate n false) flags → k < n → get_or flags k false ≡ false → ¬ (IsNamed f k)
not_named f n k flags marked l e h = true≢false (sym ((marked.flags k (omega (arith, length-replicate n false))).1 (inr h)) ∙ e)

pub place-more : (f : Formula) (columns : List Column) (types : List TypeTree) (count k n : ℕ) (d : Column) (table more : List Rows) (rows : Rows) (b : Bool) (flags : List Bool) → k < length columns → k < n → length table ≡ k
    → AreMarked f (replicate n false) flags → get_or flags k false ≡ b → AreReadFrom f columns count k table → AreSoundBefore f columns types count k
    → IsReadIf b (get_or columns k d) (get_or types k null_type) count rows → more ≡ table ++ rows ∷ [] → AreReadFrom f columns count (k + 1) more × AreSoundBefore f columns types count (k + 1)
place-more f columns types count k n d table more rows true flags here l many marked flag all sound one e =
    (read-named f columns (get_or types k null_type) count k d table more rows here many all one e, sound-more (IsSoundAt f types count) columns k d here sound (λ h. one.sound))
place-more f columns types count k n d table more rows false flags here l many marked flag all sound one e =
    let other = not_named f n k flags marked l flag in
    (read-other f columns count k d table more here many all other (e ∙ ap (λ r. table ++ r ∷ []) one), sound-more (IsSoundAt f types count) columns k d here sound (λ h. absurd (other h)))

-- an error of a named column is one of the table

pub table-fault : (f : Formula) (columns : List Column) (types : List TypeTree) (count k : ℕ) (d : Column) (fault : MaskError) → length columns ≡ length types → k < length columns → IsNamed f k → AreSoundBefore f columns types count k
    → IsErrorAt k (get_or columns k d) (get_or types k null_type) count fault → IsTableError f columns types count fault
table-fault f columns types count k d OutOfMemory counts here n all h = counts
table-fault f columns types count k d WrongCount counts here n all h = absurd h
table-fault f columns types count k d BufferTooSmall counts here n all h = absurd h
table-fault f columns types count k d (Unreadable place fault) counts here n all h = (counts, first-error (IsSoundAt f types count) (λ j column. IsNamed f j × IsErrorAt j column (get_or types j null_type) count (Unreadable place fault)) columns k d here all (n, h))
table-fault f columns types count k d (TypesDiffer place) counts here n all h = (counts, first-error (IsSoundAt f types count) (λ j column. IsNamed f j × IsErrorAt j column (get_or types j null_type) count (TypesDiffer place)) columns k d here all (n, h))
table-fault f columns types count k d (WrongLength place) counts here n all h = (counts, first-error (IsSoundAt f types count) (λ j column. IsNamed f j × IsErrorAt j column (get_or types j null_type) count (WrongLength place)) columns k d here all (n, h))

pub table-fault-typed : (f : Formula) (columns : List Column) (types : List DType) (count k : ℕ) (d : Column) (u : DType) (fault : MaskError) → length columns ≡ length types → k < length columns → IsNamed f k → u ≡ get_or types k u
    → AreSoundBefore f columns (map type_of types) count k → IsErrorAt k (get_or columns k d) (type_of u) count fault → IsTableError f columns (map type_of types) count fault
table-fault-typed f columns types count k d u fault counts here n is all h =
    table-fault f columns (map type_of types) count k d fault (omega (arith, counts, length-map types type_of)) here n all (fault_typed types k u (get_or columns k d) count fault (omega arith) is h)

pub table-refused : (f : Formula) (columns : List Column) (types : List TypeTree) (count : ℕ) (r : Result (Vec Rows Global) MaskError) (e : MaskError) → IsErr r × IsErrAnd r (λ g. g ≡ e) → IsTableError f columns types count e → IfErr r (λ g. IsTableError f columns types count g)
table-refused f columns types count (Ok p) e h k = tt
table-refused f columns types count (Err g) e h k = subst (IsTableError f columns types count) (sym h.1) k

-- all columns are read
pub columns-of : (f : Formula) (columns : List Column) (types : List DType) (count : ℕ) → length columns ≡ length types → AreSoundBefore f columns (map type_of types) count (length columns) → AreColumnsOf f columns (map type_of types) count
columns-of f columns types count counts sound = record { counts = counts ∙ sym (length-map types type_of); sound = sound }

pub other-count : (f : Formula) (columns : List Column) (types : List DType) (count : ℕ) → ¬ (length columns ≡ length types) → IsTableError f columns (map type_of types) count WrongCount
other-count f columns types count differ counts = differ (counts ∙ length-map types type_of)

pub ruleset shown = (read-none, columns-of, other-count)
