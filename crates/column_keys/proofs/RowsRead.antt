-- The rows that keys decode to, one by one, and what a column has in them.
use Rattle.std.proofs.Common.{◌≡◌, ◌∙◌, ℕ, ◌+◌, ◌<◌, ◌≤◌, ◌⊎◌, inl, inr, List, [], ◌∷◌, ◌++◌, length, map, get_or, sym, subst, ap, arith}
use Rattle.std.specs.Global.{Global}
use Rattle.std.specs.List.{All}
use Rattle.std.specs.Prelude.{Result, Ok, Err, IsErr, IsErrAnd, IfErr, Vec}
use Rattle.std.proofs.lemmas.Bool.{cases_lt}
use Rattle.std.proofs.lemmas.List.{get_or-map, get_or_append_left, get_or_push, length-append, length-map}
use Rattle.vortex_dtype.specs.TypeOf.{type_of}
use Rattle.vortex_dtype.specs.TypeTree.{TypeTree, null_type}
use Rattle.vortex_value.specs.Validity.{Valid}
use Rattle.vortex_value.specs.Values.Content.{content, null}
use Rattle.vortex_value.specs.Values.RawTree.{RawTree, absent}
use Rattle.vortex_value.specs.Values.Scalars.{scalar_content, scalar_raw}
use Rattle.vortex_value.specs.declared.scalars.Scalar.{Scalar}
use Rattle.column_keys.specs.Cells.{AreCellsOf, AreRowsOf, HaveColumn, IsCellAt, IsRowOf, count_in, raws_in, types_in}
use Rattle.column_keys.specs.Errors.{IsRowReadError, Refuses}
use Rattle.column_keys.specs.declared.errors.KeysError.{KeysError}
use Rattle.column_keys.specs.declared.errors.KeysError.TheVariants.{BadBytes, BadOffsets, BadOptions, BufferTooSmall, NotAValue, OutOfMemory, UnknownKind, WrongLength}
use Rattle.column_keys.specs.declared.keys.RowKeys.{RowKeys}
use Rattle.column_keys.proofs.RowLaws.{content-there, value-there, values-count}

-- ---- the rows so far

pub record AreRowsBefore (keys : RowKeys) (row : ℕ) (rows : List (Vec Scalar Global)) : Type 0 where
  pub count : length rows ≡ row
  pub each : (k : ℕ) (d : Vec Scalar Global) → k < row → IsRowOf keys k (map scalar_raw (get_or rows k d).items)
  pub some : (k : ℕ) → k < row → (values : List RawTree) × IsRowOf keys k values

pub rows-none : (keys : RowKeys) (rows : List (Vec Scalar Global)) → rows ≡ [] → AreRowsBefore keys 0 rows
rows-none keys rows none = record { count = ap length none; each = λ k d l. absurd (omega (arith, l)); some = λ k l. absurd (omega (arith, l)) }

pub rows-more : (keys : RowKeys) (row : ℕ) (rows more : List (Vec Scalar Global)) (one : Vec Scalar Global) → AreRowsBefore keys row rows → IsRowOf keys row (map scalar_raw one.items) → more ≡ rows ++ one ∷ [] → AreRowsBefore keys (row + 1) more
rows-more keys row rows more one all has e = record {
  count = ap length e ∙ length-append rows (one ∷ []) ∙ ap (λ n. n + 1) all.count;
  each = λ k d l. subst (λ xs. IsRowOf keys k (map scalar_raw (get_or xs k d).items)) (sym e) (by_place k d (cases_lt k row) l);
  some = λ k l. some_at k (cases_lt k row) l;
}
  where
    some_at : (k : ℕ) → (k < row) ⊎ (row ≤ k) → k < row + 1 → (values : List RawTree) × IsRowOf keys k values
    some_at k (inl less) l = all.some k less
    some_at k (inr least) l = let here : row ≡ k = omega (arith, least, l) in (map scalar_raw one.items, subst (λ i. IsRowOf keys i (map scalar_raw one.items)) here has)

    by_place : (k : ℕ) (d : Vec Scalar Global) → (k < row) ⊎ (row ≤ k) → k < row + 1 → IsRowOf keys k (map scalar_raw (get_or (rows ++ one ∷ []) k d).items)
    by_place k d (inl less) l = subst (λ (cells : Vec Scalar Global). IsRowOf keys k (map scalar_raw cells.items)) (sym (get_or_append_left rows (one ∷ []) d k (omega (arith, less, all.count)))) (all.each k d less)
    by_place k d (inr least) l =
        let at : k ≡ length rows = omega (arith, least, l, all.count) in
        let here : row ≡ k = omega (arith, least, l) in
        subst (λ (cells : Vec Scalar Global). IsRowOf keys k (map scalar_raw cells.items)) (sym (get_or_push rows one d k (sym at))) (subst (λ i. IsRowOf keys i (map scalar_raw one.items)) here has)

pub rows-done : (keys : RowKeys) (row : ℕ) (rows : List (Vec Scalar Global)) → row ≡ count_in keys → AreRowsBefore keys row rows → AreRowsOf keys rows
rows-done keys row rows at all = record { count = all.count ∙ at; each = λ k d l. all.each k d (omega (arith, l, all.count)) }

-- a fault of the next one is one of the keys
refused-by : (keys : RowKeys) (row : ℕ) (rows : List (Vec Scalar Global)) (e : KeysError) → row < count_in keys → AreRowsBefore keys row rows → IsRowReadError keys row e → Refuses keys e
refused-by keys row rows OutOfMemory l all why = tt
refused-by keys row rows WrongLength l all why = absurd why
refused-by keys row rows (UnknownKind k) l all why = absurd why
refused-by keys row rows (BadOptions k) l all why = absurd why
refused-by keys row rows (NotAValue k r) l all why = absurd why
refused-by keys row rows BufferTooSmall l all why = absurd why
refused-by keys row rows (BadOffsets k) l all why = record { row = row; within = l; before = all.some; cause = why }
refused-by keys row rows (BadBytes k) l all why = record { row = row; within = l; before = all.some; cause = why }

pub rows-refused : {X : Type 0} (keys : RowKeys) (row : ℕ) (rows : List (Vec Scalar Global)) (r : Result X KeysError) (e : KeysError) → IsErr r × IsErrAnd r (λ f. f ≡ e) → row < count_in keys → AreRowsBefore keys row rows → IsRowReadError keys row e → IfErr r (Refuses keys)
rows-refused keys row rows (Ok x) e h l all why = tt
rows-refused keys row rows (Err f) e h l all why = subst (Refuses keys) (sym h.1) (refused-by keys row rows e l all why)

-- ---- what a column has in rows

-- the cell of a row
pub raw-there : (rows : List (Vec Scalar Global)) (row which : ℕ) (cells : Vec Scalar Global) (slice : List Scalar) (x : Scalar) → row < length rows → HaveColumn rows which → cells ≡ get_or rows row cells → slice ≡ cells.items → x ≡ get_or slice which x
    → scalar_raw x ≡ get_or (raws_in rows which) row absent
raw-there rows row which cells slice x l column at same is =
    let within : which < length cells.items = subst (λ (v : Vec Scalar Global). which < length v.items) (sym at) (column row cells l) in
    ap scalar_raw (is ∙ ap (λ xs. get_or xs which x) same) ∙ sym (get_or-map scalar_raw cells.items which x absent within) ∙ ap (λ (c : Vec Scalar Global). get_or (map scalar_raw c.items) which absent) at
    ∙ sym (get_or-map (λ (c : Vec Scalar Global). get_or (map scalar_raw c.items) which absent) rows row cells absent l)

-- the cell is there
pub cell-there : (rows : List (Vec Scalar Global)) (row which : ℕ) (cells : Vec Scalar Global) → row < length rows → HaveColumn rows which → cells ≡ get_or rows row cells → which < length cells.items
cell-there rows row which cells l column at = subst (λ (v : Vec Scalar Global). which < length v.items) (sym at) (column row cells l)

-- its content
pub content-at : (raws : List RawTree) (row : ℕ) (x : Scalar) → scalar_raw x ≡ get_or raws row absent → get_or (map content raws) row null ≡ scalar_content x
content-at raws row x is = sym (content-there raws row) ∙ ap content (sym is)

pub raws-count : (rows : List (Vec Scalar Global)) (which : ℕ) → length (map content (raws_in rows which)) ≡ length rows
raws-count rows which = length-map (raws_in rows which) content ∙ length-map rows (λ (c : Vec Scalar Global). get_or (map scalar_raw c.items) which absent)

-- the rows of keys have each column, with values of its type
pub have-column : (keys : RowKeys) (rows : List (Vec Scalar Global)) (which : ℕ) → AreRowsOf keys rows → which < length keys.dtypes.now → HaveColumn rows which
have-column keys rows which all l k d within =
    let counts = values-count (map type_of keys.dtypes.now) (map scalar_raw (get_or rows k d).items) (all.each k d within).begins.values in
    omega (arith, l, counts, length-map (map scalar_raw (get_or rows k d).items) content, length-map (get_or rows k d).items scalar_raw, length-map keys.dtypes.now type_of)

pub have-types : (keys : RowKeys) (rows : List (Vec Scalar Global)) (which : ℕ) (t : TypeTree) → AreRowsOf keys rows → which < length keys.dtypes.now → t ≡ get_or (map type_of keys.dtypes.now) which null_type → All (Valid t) (raws_in rows which)
have-types keys rows which t all l is k d within = subst (λ u. Valid u (get_or (raws_in rows which) k d)) (sym is) (at rows all.each k d (omega (arith, within, length-map rows (λ (c : Vec Scalar Global). get_or (map scalar_raw c.items) which absent))))
  where
    at : (rs : List (Vec Scalar Global)) → ((k : ℕ) (d : Vec Scalar Global) → k < length rs → IsRowOf keys k (map scalar_raw (get_or rs k d).items)) → (k : ℕ) (d : RawTree) → k < length rs → Valid (get_or (map type_of keys.dtypes.now) which null_type) (get_or (raws_in rs which) k d)
    at [] each k d l = absurd (omega (arith, l))
    at (r ∷ rs) each k d within =
        subst (Valid (get_or (map type_of keys.dtypes.now) which null_type)) (sym (get_or-map (λ (c : Vec Scalar Global). get_or (map scalar_raw c.items) which absent) (r ∷ rs) k r d within))
        (value-there (map type_of keys.dtypes.now) (map scalar_raw (get_or (r ∷ rs) k r).items) which (each k r within).begins.values (omega (arith, l, length-map keys.dtypes.now type_of))).valid

-- these are the column's cells
pub cells-of : (keys : RowKeys) (rows : List (Vec Scalar Global)) (which : ℕ) → AreRowsOf keys rows → AreCellsOf keys.options.now (types_in keys) which keys.bytes.now keys.offsets.now (map content (raws_in rows which))
cells-of keys rows which all = record { count = raws-count rows which ∙ all.count; each = λ k l. at rows all.each k (omega (arith, l, raws-count rows which)) }
  where
    at : (rs : List (Vec Scalar Global)) → ((k : ℕ) (d : Vec Scalar Global) → k < length rs → IsRowOf keys k (map scalar_raw (get_or rs k d).items)) → (k : ℕ) → k < length rs → IsCellAt keys.options.now (types_in keys) which keys.bytes.now keys.offsets.now k (get_or (map content (raws_in rs which)) k null)
    at [] each k l = absurd (omega (arith, l))
    at (r ∷ rs) each k l =
        let row = each k r l in
        record {
          placed = row.placed;
          cell = record {
            values = map scalar_raw (get_or (r ∷ rs) k r).items;
            row = row.begins;
            is = sym (content-there (raws_in (r ∷ rs) which) k) ∙ ap content (get_or-map (λ (c : Vec Scalar Global). get_or (map scalar_raw c.items) which absent) (r ∷ rs) k r absent l);
          };
        }
