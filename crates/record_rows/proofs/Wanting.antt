-- The cells of a record that are wanted.
use Rattle.std.proofs.Common.{◌≡◌, ◌≤◌, ◌<◌, ◌+◌, ◌-◌, inl, inr, ℕ, suc, zero, List, [], ◌∷◌, ◌++◌, Bool, true, false, refl, sym, ap, ◌∙◌, subst, length, length-append, take, get_or, drop, arith}
use Rattle.std.specs.Prelude.{IfOk, Result, Ok, Err, is_ok}
use Rattle.std.proofs.lemmas.Bool.{cases_lt}
use Rattle.csv_records.specs.Rows.{Field, field_rows}
use Rattle.csv_records.specs.declared.fields.Follows.{Follows}
use Rattle.csv_records.specs.declared.fields.Follows.TheVariants.{Another, Nothing, Row}
use Rattle.csv_records.proofs.RowCuts.{first_field}
use Rattle.vortex_value.specs.declared.scalars.Scalar.{Scalar}
use Rattle.record_rows.specs.Readings.{Reading}
use Rattle.record_rows.specs.Rows.{IsTaken, fitted, is_wanted}
use Rattle.record_rows.specs.Walks.{AreFollowedBy, AreGiven, HasWalked, IsNext, field_of, with_front}
use Rattle.record_rows.specs.Wanted.{AreCellsWhere, AreFirst, AreWanted, IsReadWhere, PutsCell}
use Rattle.record_rows.specs.declared.fields.ColumnField.{ColumnField}
use Rattle.record_rows.specs.declared.fields.FieldWalk.{FieldWalk}
use Rattle.record_rows.specs.declared.schema.ColumnType.{ColumnType}
use Rattle.record_rows.proofs.Walking.{fitted_front, front_row}

-- ---- the first fields of a row

one_of : (row all : List Field) (others : List (List Field)) → row ∷ others ≡ all ∷ [] → all ≡ row
one_of row all others e = cc

not_one : (row next all : List Field) (others : List (List Field)) → row ∷ next ∷ others ≡ all ∷ [] → ⊥
not_one row next all others e = cc

first_given : (d : ℕ) (l : Bool) (columns : List ColumnType) (bytes : List ℕ) (read fields all : List Field) (o : Follows) → length fields ≤ length columns → AreFollowedBy d bytes read o → AreGiven l columns read o fields → field_rows d bytes ≡ all ∷ [] → (more : List Field) × (fitted l columns all ≡ fields ++ more)
first_given d l columns bytes read fields all (Another rest) within follow given only =
    let some = first_field d rest.now in
    let back = some.0 ∷ some.1 in
    let rows : field_rows d bytes ≡ (read ++ back) ∷ some.2 = follow ∙ ap (with_front read) some.3 ∙ front_row read back some.2 in
    let is : all ≡ read ++ back = one_of (read ++ back) all some.2 (sym rows ∙ only) in
    (fitted l (drop (length fields) columns) back, ap (fitted l columns) (is ∙ ap (λ (fs : List Field). fs ++ back) (sym given)) ∙ fitted_front l columns fields back within)
first_given d l columns bytes read fields all Nothing within follow given only =
    let is : all ≡ read = one_of read all [] (sym follow ∙ only) in
    (fitted l (drop (length fields) columns) [], ap (fitted l columns) is ∙ given)
first_given d l columns bytes read fields all Row within follow given only = absurd (not_one read follow.0 all follow.1 (sym follow.2 ∙ only))

-- the fields that a walk has given are the first ones of the row
walked_first : (d : ℕ) (r : Reading) (columns : List ColumnType) (bytes : List ℕ) (walk : FieldWalk) (fields : List Field) → HasWalked d r columns bytes walk fields → AreFirst r columns (field_rows d bytes) fields
walked_first d r columns bytes walk fields h = λ all only.
    let within : length fields ≤ length columns = omega (arith, h.place, h.within) in
    first_given d r.is_lenient columns bytes h.read fields all walk.follows within h.follow h.given only

-- ---- cells where they are wanted

where_push : (w : List Bool) (k j : ℕ) (l : Reading) (cs : List ColumnType) (fs : List Field) (xs : List Scalar) (c : ColumnType) (f : Field) (x : Scalar) → j ≡ k + length fs → length xs ≡ length fs → length fs < length cs → c ≡ get_or cs (length fs) c → AreCellsWhere w k l cs fs xs
    → IsReadWhere (is_wanted w j) l c f x → AreCellsWhere w k l cs (fs ++ f ∷ []) (xs ++ x ∷ [])
where_push w k j l [] [] xs c f x e long below column h cell = absurd (omega (arith, below))
where_push w k j l (d ∷ cs) [] [] c f x e long below column h cell =
    let same : j ≡ k = omega (arith, e) in
    (subst (λ (t : ColumnType). IsReadWhere (is_wanted w k) l t f x) column (subst (λ (n : ℕ). IsReadWhere (is_wanted w n) l c f x) same cell), tt)
where_push w k j l (d ∷ cs) [] (y ∷ xs) c f x e long below column h cell = absurd (omega (arith, long))
where_push w k j l [] (g ∷ fs) xs c f x e long below column h cell = absurd h
where_push w k j l (d ∷ cs) (g ∷ fs) [] c f x e long below column h cell = absurd h
where_push w k j l (d ∷ cs) (g ∷ fs) (y ∷ xs) c f x e long below column h cell = (h.0, where_push w (suc k) j l cs fs xs c f x (omega (arith, e)) (omega (arith, long)) (omega (arith, below)) column h.1 cell)

-- whatever stands behind them
where_more : (w : List Bool) (k n : ℕ) (l : Reading) (cs : List ColumnType) (fs : List Field) (xs : List Scalar) → AreCellsWhere w k l cs fs (take n xs) → AreCellsWhere w k l cs fs xs
where_more w k n l cs [] xs h = tt
where_more w k n l [] (f ∷ fs) xs h = absurd h
where_more w k zero l (c ∷ cs) (f ∷ fs) xs h = absurd h
where_more w k (suc n) l (c ∷ cs) (f ∷ fs) [] h = absurd h
where_more w k (suc n) l (c ∷ cs) (f ∷ fs) (x ∷ xs) h = (h.0, where_more w (suc k) n l cs fs xs h.1)

-- the fields so far, and the cells of those that are wanted
pub record IsPut (w : List Bool) (d : ℕ) (l : Reading) (columns : List ColumnType) (bytes : List ℕ) (walk : FieldWalk) (row : List Scalar) : Type 0 where
  pub fields : List Field
  pub walked : HasWalked d l columns bytes walk fields
  pub long : length row ≡ length fields
  pub cells : AreCellsWhere w 0 l columns fields row

pub none_put : (w : List Bool) (d : ℕ) (l : Reading) (columns : List ColumnType) (bytes : List ℕ) (walk : FieldWalk) (row : List Scalar) → HasWalked d l columns bytes walk [] → IsPut w d l columns bytes walk (take walk.place row)
none_put w d l columns bytes walk row h = record {
  fields = [];
  walked = h;
  long = ap (λ (n : ℕ). length (take n row)) h.place;
  cells = tt;
}

-- a field more
pub more_put : (w : List Bool) (d : ℕ) (l : Reading) (columns : List ColumnType) (bytes : List ℕ) (old_walk walk : FieldWalk) (next : ColumnField) (old new : List Scalar) → (h : IsPut w d l columns bytes old_walk (take old_walk.place old)) → IsNext d l columns bytes walk h.fields next
    → PutsCell (is_wanted w next.place) l next.column (field_of next) (take next.place old) (take (next.place + 1) new) → IsPut w d l columns bytes walk (take walk.place new)
more_put w d l columns bytes old_walk walk next old new h is put =
    let i = length h.fields in
    let row = take old_walk.place old in
    let here : next.place ≡ old_walk.place = is.place ∙ sym h.walked.place in
    let moved : next.place + 1 ≡ walk.place = omega (arith, is.place, is.walked.place, length-append h.fields (field_of next ∷ [])) in
    let pushed : take walk.place new ≡ row ++ put.cell ∷ [] = ap (λ (n : ℕ). take n new) (sym moved) ∙ put.pushed ∙ ap (λ (n : ℕ). take n old ++ put.cell ∷ []) here in
    let column : next.column ≡ get_or columns i next.column = is.column ∙ ap (λ (n : ℕ). get_or columns n next.column) is.place in
    record {
      fields = h.fields ++ field_of next ∷ [];
      walked = is.walked;
      long = ap length pushed ∙ length-append row (put.cell ∷ []) ∙ ap (λ (n : ℕ). n + 1) h.long ∙ sym (length-append h.fields (field_of next ∷ []));
      cells = subst (AreCellsWhere w 0 l columns (h.fields ++ field_of next ∷ [])) (sym pushed)
          (where_push w 0 next.place l columns h.fields row next.column (field_of next) put.cell (omega (arith, is.place)) h.long (omega (arith, is.place, is.within)) column h.cells put.is);
    }

-- all that are wanted
pub all_put : (w : List Bool) (d n : ℕ) (l : Reading) (columns : List ColumnType) (bytes : List ℕ) (walk : FieldWalk) (row : List Scalar) → IsPut w d l columns bytes walk (take walk.place row) → n ≤ walk.place → length row ≤ length columns → ((k : ℕ) → is_wanted w k ≡ true → k < length columns → k < n)
    → AreWanted w l columns (field_rows d bytes) row
all_put w d n l columns bytes walk row h done few past = record {
  fields = h.fields;
  first = walked_first d l columns bytes walk h.fields h.walked;
  cells = where_more w 0 walk.place l columns h.fields row h.cells;
  past = λ k wants below. omega (arith, past k wants below, done, h.walked.place);
  few = few;
}

-- ---- the columns up to the last one that is wanted

pub unlike : (b : Bool) → b ≡ true → b ≡ false → ⊥
unlike b t f = cc

pub fewer : (w : List Bool) (k n : ℕ) (b : Bool) → 0 < n → b ≡ is_wanted w (n - 1) → b ≡ false → is_wanted w k ≡ true → k < n → k < n - 1
fewer w k n b some is other wants below = elim (cases_lt k (n - 1)) [
  | inl h ↦ h
  | inr past ↦
      let same : k ≡ n - 1 = omega (arith, past, below, some) in
      absurd (unlike (is_wanted w (n - 1)) (subst (λ (i : ℕ). is_wanted w i ≡ true) same wants) (sym is ∙ other))
]

-- what was read of a field
pub read_of : {E : Type 0} (l : Reading) (column : ColumnType) (f : Field) (x : Scalar) (r : Result Bool E) (b : Bool) → b ≡ is_ok r → b ≡ true → IfOk r (IsTaken l column f x) → (flag : Bool) × IsTaken l column f x flag
read_of l column f x (Ok flag) b is done h = (flag, h)
read_of l column f x (Err e) b is done h = absurd (unlike b done is)
