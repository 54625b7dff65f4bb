-- The columns that are wanted, one by one, and the cells of one of them in rows of scalars.
use Rattle.std.proofs.Common.{◌≡◌, ◌&&◌, ◌∙◌, ℕ, zero, suc, ◌+◌, ◌<◌, ◌≤◌, ◌⊎◌, inl, inr, List, [], ◌∷◌, length, map, get_or, set, refl, sym, subst, ap, arith, Option, Some, Bool, true, false, MatchBool, slice_get}
use Rattle.std.specs.Global.{Global}
use Rattle.std.specs.List.{All}
use Rattle.std.specs.Option.{option_map}
use Rattle.std.specs.Prelude.{Vec}
use Rattle.std.proofs.lemmas.Bool.{cases_lt}
use Rattle.std.proofs.lemmas.List.{get_or_default, get_or-map, get_or-set_other, get_or-set_same, length-map}
use Rattle.arrow_columns.specs.declared.kinds.Kind.{Kind}
use Rattle.column_cells.specs.Types.{type_of_kind}
use Rattle.column_items.specs.Numbers.{HasContentOf}
use Rattle.column_keys.specs.Cells.{HaveColumn, raws_in}
use Rattle.column_keys.specs.Layout.{values_length}
use Rattle.column_keys.specs.Read.{AreStored, HasSpace, IsWritten}
use Rattle.column_keys.specs.declared.buffers.ColumnBuffers.{ColumnBuffers}
use Rattle.record_rows.specs.declared.schema.ColumnType.{ColumnType}
use Rattle.record_rows.specs.declared.schema.Schema.{Schema}
use Rattle.record_search.specs.Searched.{row_cells}
use Rattle.vortex_cells.specs.Cells.{Cell, cell_of}
use Rattle.vortex_filter.specs.Formula.{cell_at}
use Rattle.vortex_value.specs.Size.{capped}
use Rattle.vortex_value.specs.Validity.{Valid}
use Rattle.vortex_value.specs.Values.Content.{Content, content, null}
use Rattle.vortex_value.specs.Values.RawTree.{RawTree, absent}
use Rattle.vortex_value.specs.Values.Scalars.{scalar_content, scalar_raw}
use Rattle.vortex_value.specs.declared.scalars.Scalar.{Scalar}
use Rattle.record_columns.specs.Columns.{AreReady, IsColumnOf, IsCountOf, IsOneShort, IsReadyFor, IsShortFor, contents_in, kind_in}
use Rattle.record_columns.specs.Kinds.{kind_of_column}
use Rattle.record_columns.specs.Values.{AreValuesIn, HaveValues, IsValueIn}

-- ---- the cells of a column in rows

cell_content : (xs : List Scalar) (k : ℕ) → content (get_or (map scalar_raw xs) k absent) ≡ (cell_at (map cell_of xs) k).content
cell_content [] k = refl
cell_content (x ∷ xs) zero = refl
cell_content (x ∷ xs) (suc k) = cell_content xs k

-- what a column has, by the scalars
pub cells_same : (rows : List (Vec Scalar Global)) (k : ℕ) → map content (raws_in rows k) ≡ contents_in k (map row_cells rows)
cells_same [] k = refl
cells_same (row ∷ rows) k = rw (cell_content row.items k, cells_same rows k) refl

-- values of columns, as many as columns
values_count : (cs : List ColumnType) (xs : List Scalar) → AreValuesIn cs xs → length xs ≡ length cs
values_count [] [] h = refl
values_count [] (x ∷ xs) h = absurd h
values_count (c ∷ cs) [] h = absurd h
values_count (c ∷ cs) (x ∷ xs) h = ap suc (values_count cs xs h.1)

value_at : (cs : List ColumnType) (xs : List Scalar) (k : ℕ) (c : ColumnType) → AreValuesIn cs xs → c ≡ get_or cs k c → k < length cs → (x : Scalar) × IsValueIn c x × (get_or (map scalar_raw xs) k absent ≡ scalar_raw x)
value_at [] xs k c h at l = absurd (omega (arith, l))
value_at (d ∷ cs) [] k c h at l = absurd h
value_at (d ∷ cs) (x ∷ xs) zero c h at l = (x, subst (λ (e : ColumnType). IsValueIn e x) (sym at) h.0, refl)
value_at (d ∷ cs) (x ∷ xs) (suc k) c h at l = value_at cs xs k c h.1 at (omega (arith, l))

pub have_column : (cs : List ColumnType) (rows : List (Vec Scalar Global)) (k : ℕ) → HaveValues cs rows → k < length cs → HaveColumn rows k
have_column cs rows k all l row d within = let same = values_count cs (get_or rows row d).items (all row d within) in omega (arith, same, l)

-- the scalar of a row in the column
at_row : (cs : List ColumnType) (rows : List (Vec Scalar Global)) (k row : ℕ) (d : RawTree) (c : ColumnType) → HaveValues cs rows → c ≡ get_or cs k c → k < length cs → row < length rows → (x : Scalar) × IsValueIn c x × (get_or (raws_in rows k) row d ≡ scalar_raw x)
at_row cs [] k row d c all at l within = absurd (omega (arith, within))
at_row cs (r ∷ rs) k row d c all at l within =
    let one = value_at cs (get_or (r ∷ rs) row r).items k c (all row r within) at l in
    (one.0, one.1, get_or-map (λ (v : Vec Scalar Global). get_or (map scalar_raw v.items) k absent) (r ∷ rs) row r d within ∙ one.2)

pub have_types : (cs : List ColumnType) (rows : List (Vec Scalar Global)) (k : ℕ) (c : ColumnType) (kind : Kind) → HaveValues cs rows → c ≡ get_or cs k c → k < length cs → kind ≡ kind_of_column c → All (Valid (type_of_kind kind)) (raws_in rows k)
have_types cs rows k c kind all at l is row d within =
    let one = at_row cs rows k row d c all at l (omega (arith, within, length-map rows (λ (v : Vec Scalar Global). get_or (map scalar_raw v.items) k absent))) in
    subst (Valid (type_of_kind kind)) (sym one.2) (subst (λ (e : Kind). Valid (type_of_kind e) (scalar_raw one.0)) (sym is) one.1.valid)

raws_count : (rows : List (Vec Scalar Global)) (k : ℕ) → length (raws_in rows k) ≡ length rows
raws_count rows k = length-map rows (λ (v : Vec Scalar Global). get_or (map scalar_raw v.items) k absent)

pub are_stored : (cs : List ColumnType) (rows : List (Vec Scalar Global)) (k : ℕ) (c : ColumnType) (kind : Kind) → HaveValues cs rows → c ≡ get_or cs k c → k < length cs → kind ≡ kind_of_column c → AreStored kind (map content (raws_in rows k)) (length rows)
are_stored cs rows k c kind all at l is row within =
    let one = at_row cs rows k row absent c all at l within in
    let there : get_or (map content (raws_in rows k)) row null ≡ scalar_content one.0 = get_or-map content (raws_in rows k) row absent null (omega (arith, within, raws_count rows k)) ∙ ap content one.2 in
    subst (HasContentOf kind) (sym there) (subst (λ (e : Kind). HasContentOf e (scalar_content one.0)) (sym is) one.1.stored)

-- ---- the kind of a column

some_at : (cs : List ColumnType) (k : ℕ) (c : ColumnType) → c ≡ get_or cs k c → k < length cs → slice_get cs k ≡ Some c
some_at [] k c at l = absurd (omega (arith, l))
some_at (d ∷ cs) zero c at l = ap Some (sym at)
some_at (d ∷ cs) (suc k) c at l = some_at cs k c at (omega (arith, l))

pub kind_at_place : (s : Schema) (k : ℕ) (c : ColumnType) (kind : Kind) → c ≡ get_or s.columns.items k c → k < length s.columns.items → kind ≡ kind_of_column c → kind_in s k ≡ Some kind
kind_at_place s k c kind at l is = ap (option_map kind_of_column) (some_at s.columns.items k c at l) ∙ ap Some (sym is)

-- ---- one column

pub count_of : (s : Schema) (rows : List (Vec Scalar Global)) (k : ℕ) (kind : Kind) (old new : ColumnBuffers) → kind_in s k ≡ Some kind → new ≡ record old { count = capped (values_length kind (map content (raws_in rows k))) } → IsCountOf s (map row_cells rows) k old new
count_of s rows k kind old new is e = record {
  kind = kind;
  is = is;
  counted = subst (λ (cells : List Content). new ≡ record old { count = capped (values_length kind cells) }) (cells_same rows k) e;
}

rows_count : (rows : List (Vec Scalar Global)) → length (map row_cells rows) ≡ length rows
rows_count rows = length-map rows row_cells

pub ready_of : (s : Schema) (rows : List (Vec Scalar Global)) (k : ℕ) (kind : Kind) (old new : ColumnBuffers) → kind_in s k ≡ Some kind → new ≡ record old { count = capped (values_length kind (map content (raws_in rows k))) } → HasSpace kind (length rows) new → IsReadyFor s (map row_cells rows) k new
ready_of s rows k kind old new is e space =
    let said : new.count ≡ capped (values_length kind (map content (raws_in rows k))) = ap (λ (c : ColumnBuffers). c.count) e in
    let few = space.counted in
    let true_count : new.count ≡ values_length kind (map content (raws_in rows k)) = omega (arith, said, few) in
    record {
      kind = kind;
      is = is;
      space = subst (λ (n : ℕ). HasSpace kind n new) (sym (rows_count rows)) space;
      counts = true_count ∙ ap (values_length kind) (cells_same rows k);
    }

pub short_of : (s : Schema) (rows : List (Vec Scalar Global)) (k : ℕ) (kind : Kind) (new : ColumnBuffers) → kind_in s k ≡ Some kind → ¬ (HasSpace kind (length rows) new) → IsShortFor s (map row_cells rows) k new
short_of s rows k kind new is lacks = record { kind = kind; is = is; lacks = λ space. lacks (subst (λ (n : ℕ). HasSpace kind n new) (rows_count rows) space) }

pub tells_ready : (s : Schema) (rows : List (Vec Scalar Global)) (k : ℕ) (kind : Kind) (old new : ColumnBuffers) (b : Bool) → kind_in s k ≡ Some kind → new ≡ record old { count = capped (values_length kind (map content (raws_in rows k))) }
    → MatchBool b (HasSpace kind (length rows) new) (¬ (HasSpace kind (length rows) new)) → MatchBool b (IsReadyFor s (map row_cells rows) k new) (IsShortFor s (map row_cells rows) k new)
tells_ready s rows k kind old new true is e space = ready_of s rows k kind old new is e space
tells_ready s rows k kind old new false is e lacks = short_of s rows k kind new is lacks

same_kind : (o : Option Kind) (one other : Kind) → o ≡ Some one → o ≡ Some other → one ≡ other
same_kind o one other e f = cc

-- what is ready has its space and its count
pub space_of : (s : Schema) (rows : List (Vec Scalar Global)) (k : ℕ) (kind : Kind) (c : ColumnBuffers) → kind_in s k ≡ Some kind → IsReadyFor s (map row_cells rows) k c → HasSpace kind (length rows) c
space_of s rows k kind c is ready = subst (λ (n : ℕ). HasSpace kind n c) (rows_count rows) (subst (λ (e : Kind). HasSpace e (length (map row_cells rows)) c) (same_kind (kind_in s k) ready.kind kind ready.is is) ready.space)

pub counts_of : (s : Schema) (rows : List (Vec Scalar Global)) (k : ℕ) (kind : Kind) (c : ColumnBuffers) → kind_in s k ≡ Some kind → IsReadyFor s (map row_cells rows) k c → c.count ≡ values_length kind (map content (raws_in rows k))
counts_of s rows k kind c is ready = ready.counts ∙ ap (λ (e : Kind). values_length e (contents_in k (map row_cells rows))) (same_kind (kind_in s k) ready.kind kind ready.is is) ∙ ap (values_length kind) (sym (cells_same rows k))

pub column_of : (s : Schema) (rows : List (Vec Scalar Global)) (k : ℕ) (kind : Kind) (old new : ColumnBuffers) → kind_in s k ≡ Some kind → IsWritten kind (map content (raws_in rows k)) old new → IsColumnOf s (map row_cells rows) k old new
column_of s rows k kind old new is written = record { kind = kind; is = is; written = subst (λ (cells : List Content). IsWritten kind cells old new) (cells_same rows k) written }

-- ---- one column after the other

-- of the first columns that are wanted this holds, and the others are as they were
pub record AreChangedTo (Is : ℕ → ColumnBuffers → ColumnBuffers → Type 0) (wanted : List ℕ) (n : ℕ) (old new : List ColumnBuffers) : Type 0 where
  pub each : (which : ℕ) (d : ColumnBuffers) → which < n → Is (get_or wanted which 0) (get_or old which d) (get_or new which d)
  pub others : (which : ℕ) (d : ColumnBuffers) → n ≤ which → get_or new which d ≡ get_or old which d

-- what one column more is does not change those before
before_kept : (n which : ℕ) (columns : List ColumnBuffers) (one d : ColumnBuffers) → which < n → get_or (set columns n one) which d ≡ get_or columns which d
before_kept n which columns one d l = get_or-set_other columns n which one d (λ same. omega (arith, same, l))

pub changed_more : (Is : ℕ → ColumnBuffers → ColumnBuffers → Type 0) (wanted : List ℕ) (n : ℕ) (old columns : List ColumnBuffers) (c one : ColumnBuffers) → AreChangedTo Is wanted n old columns → n < length columns → c ≡ get_or columns n c → Is (get_or wanted n 0) c one → AreChangedTo Is wanted (n + 1) old (set columns n one)
changed_more Is wanted n old columns c one all l at is = record {
  each = λ which d less. each which d (cases_lt which n) less;
  others = λ which d least. get_or-set_other columns n which one d (λ same. omega (arith, same, least)) ∙ all.others which d (omega (arith, least));
}
  where
    was : (d : ColumnBuffers) → c ≡ get_or old n d
    was d = at ∙ get_or_default columns n c d l ∙ all.others n d (omega arith)

    each : (which : ℕ) (d : ColumnBuffers) → (which < n) ⊎ (n ≤ which) → which < n + 1 → Is (get_or wanted which 0) (get_or old which d) (get_or (set columns n one) which d)
    each which d (inl before) less = subst (Is (get_or wanted which 0) (get_or old which d)) (sym (before_kept n which columns one d before)) (all.each which d before)
    each which d (inr after) less =
        let here : n ≡ which = omega (arith, after, less) in
        subst (λ (w : ℕ). Is (get_or wanted w 0) (get_or old w d) (get_or (set columns n one) w d)) here
        (subst (Is (get_or wanted n 0) (get_or old n d)) (sym (get_or-set_same columns n one d l)) (subst (λ (x : ColumnBuffers). Is (get_or wanted n 0) x one) (was d) is))

-- the same, as it is read out of the slice
pub changed_after : (Is : ℕ → ColumnBuffers → ColumnBuffers → Type 0) (wanted : List ℕ) (n : ℕ) (old columns : List ColumnBuffers) (d one : ColumnBuffers) → AreChangedTo Is wanted n old columns → n < length columns → Is (get_or wanted n 0) (get_or columns n d) one → AreChangedTo Is wanted (n + 1) old (set columns n one)
changed_after Is wanted n old columns d one all l is = changed_more Is wanted n old columns (get_or columns n d) one all l (get_or_default columns n d (get_or columns n d) l) is

-- the buffers of the columns so far are ready, or those of one of them are too short
abbrev pub TellsReady : Bool → Schema → List (List Cell) → List ℕ → ℕ → List ColumnBuffers → Type 0
TellsReady b s rows wanted n columns = MatchBool b (AreReady s rows wanted n columns) (IsOneShort s rows wanted n columns)

ready_next : (s : Schema) (rows : List (List Cell)) (wanted : List ℕ) (n : ℕ) (columns : List ColumnBuffers) (one : ColumnBuffers) → n < length columns → IsReadyFor s rows (get_or wanted n 0) one → AreReady s rows wanted n columns → AreReady s rows wanted (n + 1) (set columns n one)
ready_next s rows wanted n columns one l is all which d less = by_place (cases_lt which n)
  where
    by_place : (which < n) ⊎ (n ≤ which) → IsReadyFor s rows (get_or wanted which 0) (get_or (set columns n one) which d)
    by_place (inl before) = subst (IsReadyFor s rows (get_or wanted which 0)) (sym (before_kept n which columns one d before)) (all which d before)
    by_place (inr after) =
        let here : n ≡ which = omega (arith, after, less) in
        subst (λ (w : ℕ). IsReadyFor s rows (get_or wanted w 0) (get_or (set columns n one) w d)) here (subst (IsReadyFor s rows (get_or wanted n 0)) (sym (get_or-set_same columns n one d l)) is)

short_kept : (s : Schema) (rows : List (List Cell)) (wanted : List ℕ) (n : ℕ) (columns : List ColumnBuffers) (one : ColumnBuffers) → IsOneShort s rows wanted n columns → IsOneShort s rows wanted (n + 1) (set columns n one)
short_kept s rows wanted n columns one h = record {
  which = h.which;
  within = omega (arith, h.within);
  short = λ d. subst (IsShortFor s rows (get_or wanted h.which 0)) (sym (before_kept n h.which columns one d h.within)) (h.short d);
}

short_next : (s : Schema) (rows : List (List Cell)) (wanted : List ℕ) (n : ℕ) (columns : List ColumnBuffers) (one : ColumnBuffers) → n < length columns → IsShortFor s rows (get_or wanted n 0) one → IsOneShort s rows wanted (n + 1) (set columns n one)
short_next s rows wanted n columns one l is = record {
  which = n;
  within = omega arith;
  short = λ d. subst (IsShortFor s rows (get_or wanted n 0)) (sym (get_or-set_same columns n one d l)) is;
}

-- one column more
pub tells_more : (s : Schema) (rows : List (List Cell)) (wanted : List ℕ) (n : ℕ) (columns : List ColumnBuffers) (one : ColumnBuffers) (fits b : Bool) → n < length columns → MatchBool fits (IsReadyFor s rows (get_or wanted n 0) one) (IsShortFor s rows (get_or wanted n 0) one) → TellsReady b s rows wanted n columns
    → TellsReady (b && fits) s rows wanted (n + 1) (set columns n one)
tells_more s rows wanted n columns one true true l is all = ready_next s rows wanted n columns one l is all
tells_more s rows wanted n columns one false true l is all = short_next s rows wanted n columns one l is
tells_more s rows wanted n columns one true false l is short = short_kept s rows wanted n columns one short
tells_more s rows wanted n columns one false false l is short = short_kept s rows wanted n columns one short
