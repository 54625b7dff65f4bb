-- Fields are read one after another.
use Rattle.std.proofs.Common.{◌≡◌, ◌≢◌, ◌==◌, true, ◌≤◌, ◌<◌, ◌+◌, ℕ, suc, zero, List, [], ◌∷◌, ◌++◌, Bool, false, Option, None, Some, Result, Ok, Err, cond, refl, sym, ap, ◌∙◌, subst, length, length-append, take, drop, get_or, arith, take_all, set}
use Rattle.std.specs.Prelude.{IfOk, MatchOption, OnOk, is_ok}
use Rattle.std.proofs.lemmas.Grind.{take_at_read}
use Rattle.std.proofs.lemmas.List.Sums.{sum_by_push}
use Rattle.std.proofs.lemmas.List.{length-take-le, take-append-drop}
use Rattle.csv_records.specs.Rows.{Field, field_rows, rows_of}
use Rattle.vortex_value.specs.Values.Scalars.{scalar_content}
use Rattle.vortex_value.specs.declared.scalars.Scalar.{Scalar}
use Rattle.record_rows.specs.Readings.{Reading}
use Rattle.record_rows.specs.Rows.{AreCells, AreCellsIn, HasFields, IsRow, IsRowIn, IsTakenIf, IsTested, PushesCell, ReachesPast, Refuses, RefusesFields, RefusesRows, Takes, fitted, is_wanted, refused_of}
use Rattle.record_rows.specs.Walks.{AreTaken, HasWalked, IsNext, ReadsNext, field_of}
use Rattle.record_rows.specs.declared.errors.RowReadError.{RowReadError}
use Rattle.record_rows.specs.declared.fields.ColumnField.{ColumnField}
use Rattle.record_rows.specs.declared.fields.FieldWalk.{FieldWalk}
use Rattle.record_rows.specs.declared.schema.ColumnType.{ColumnType}

cells_push : (w : List Bool) (k j : ℕ) (l : Reading) (cs : List ColumnType) (fs : List Field) (xs : List Scalar) (bs : List Bool) (c : ColumnType) (f : Field) (x : Scalar) (b : Bool) → j ≡ k + length cs → AreCellsIn w k l cs fs xs bs → IsTakenIf (is_wanted w j) l c f x b → AreCellsIn w k l (cs ++ c ∷ []) (fs ++ f ∷ []) (xs ++ x ∷ []) (bs ++ b ∷ [])
cells_push w k j l [] [] [] [] c f x b e h t = let same : j ≡ k = omega (arith, e) in (subst (λ (n : ℕ). IsTakenIf (is_wanted w n) l c f x b) same t, tt)
cells_push w k j l [] [] [] (a ∷ bs) c f x b e h t = absurd h
cells_push w k j l [] [] (y ∷ xs) bs c f x b e h t = absurd h
cells_push w k j l [] (g ∷ fs) xs bs c f x b e h t = absurd h
cells_push w k j l (d ∷ cs) [] xs bs c f x b e h t = absurd h
cells_push w k j l (d ∷ cs) (g ∷ fs) [] bs c f x b e h t = absurd h
cells_push w k j l (d ∷ cs) (g ∷ fs) (y ∷ xs) [] c f x b e h t = absurd h
cells_push w k j l (d ∷ cs) (g ∷ fs) (y ∷ xs) (a ∷ bs) c f x b e h t = (h.0, cells_push w (suc k) j l cs fs xs bs c f x b (omega (arith, e)) h.1 t)

-- where each cell is wanted, they are cells
all_cells : (k : ℕ) (l : Reading) (cs : List ColumnType) (fs : List Field) (xs : List Scalar) (bs : List Bool) → AreCellsIn [] k l cs fs xs bs → AreCells l cs fs xs bs
all_cells k l [] [] [] [] h = tt
all_cells k l [] [] [] (b ∷ bs) h = absurd h
all_cells k l [] [] (x ∷ xs) bs h = absurd h
all_cells k l [] (f ∷ fs) xs bs h = absurd h
all_cells k l (c ∷ cs) [] xs bs h = absurd h
all_cells k l (c ∷ cs) (f ∷ fs) [] bs h = absurd h
all_cells k l (c ∷ cs) (f ∷ fs) (x ∷ xs) [] h = absurd h
all_cells k l (c ∷ cs) (f ∷ fs) (x ∷ xs) (b ∷ bs) h = (h.0, all_cells (suc k) l cs fs xs bs h.1)

-- a scalar that may be any
pub pushes_untaken : (w : Bool) (l : Reading) (column : ColumnType) (f : Field) (x : Scalar) (old new : List Scalar) (b : Bool) → w ≡ false → IsTested l column f b → new ≡ old ++ x ∷ [] → PushesCell w l column f old new b
pushes_untaken w l column f x old new b e h pushed = record { cell = x; is = subst (λ (t : Bool). IsTakenIf t l column f x b) (sym e) h; pushed = pushed }

pub refused_push : (bs : List Bool) (b : Bool) (old new : ℕ) → old ≡ refused_of bs → new ≡ old + cond b 1 0 → new ≡ refused_of (bs ++ b ∷ [])
refused_push bs b old new before here = here ∙ ap (λ (n : ℕ). n + cond b 1 0) before ∙ sym (sum_by_push (λ (a : Bool). cond a 1 0) bs b)

-- the fields so far are the cells of the columns so far
pub record Begun (w : List Bool) (d : ℕ) (l : Reading) (columns : List ColumnType) (bytes : List ℕ) (walk : FieldWalk) (row : List Scalar) (refused : ℕ) : Type 0 where
  pub fields : List Field
  pub flags : List Bool
  pub walked : HasWalked d l columns bytes walk fields
  pub cells : AreCellsIn w 0 l (take walk.place columns) fields row flags
  pub count : refused ≡ refused_of flags

pub begun : (w : List Bool) (d : ℕ) (l : Reading) (columns : List ColumnType) (bytes : List ℕ) (walk : FieldWalk) (row : List Scalar) → HasWalked d l columns bytes walk [] → row ≡ [] → Begun w d l columns bytes walk row 0
begun w d l columns bytes walk row h none = record {
  fields = [];
  flags = [];
  walked = h;
  cells = subst (λ (n : ℕ). AreCellsIn w 0 l (take n columns) [] row []) (sym h.place) (subst (λ (xs : List Scalar). AreCellsIn w 0 l [] [] xs []) (sym none) tt);
  count = refl;
}

more_cells : (w : List Bool) (l : Reading) (columns : List ColumnType) (i : ℕ) (fs : List Field) (f : Field) (d0 : ColumnType) (old new : List Scalar) (bs : List Bool) (b : Bool) → i < length columns → AreCellsIn w 0 l (take i columns) fs old bs → PushesCell (is_wanted w i) l (get_or columns i d0) f old new b
    → AreCellsIn w 0 l (take (i + 1) columns) (fs ++ f ∷ []) new (bs ++ b ∷ [])
more_cells w l columns i fs f d0 old new bs b inside before push =
    let column = get_or columns i d0 in
    let at : take (i + 1) columns ≡ take i columns ++ column ∷ [] = (take_at_read columns i d0 inside).1 in
    let count : length (take i columns) ≡ i = length-take-le i columns (omega arith) in
    subst (λ (cs : List ColumnType). AreCellsIn w 0 l cs (fs ++ f ∷ []) new (bs ++ b ∷ [])) (sym at)
    (subst (λ (xs : List Scalar). AreCellsIn w 0 l (take i columns ++ column ∷ []) (fs ++ f ∷ []) xs (bs ++ b ∷ [])) (sym push.pushed) (cells_push w 0 i l (take i columns) fs old bs column f push.cell b (omega (arith, count)) before push.is))

-- a field more
pub more : (w : List Bool) (d : ℕ) (l : Reading) (columns : List ColumnType) (bytes : List ℕ) (old_walk walk : FieldWalk) (next : ColumnField) (old new : List Scalar) (b : Bool) (n m : ℕ) → (h : Begun w d l columns bytes old_walk old n) → IsNext d l columns bytes walk h.fields next
    → PushesCell (is_wanted w next.place) l next.column (field_of next) old new b → m ≡ n + cond b 1 0 → Begun w d l columns bytes walk new m
more w d l columns bytes old_walk walk next old new b n m h is pushes counted =
    let i = length h.fields in
    let cells : AreCellsIn w 0 l (take i columns) h.fields old h.flags = subst (λ (k : ℕ). AreCellsIn w 0 l (take k columns) h.fields old h.flags) h.walked.place h.cells in
    let inside : i < length columns = omega (arith, is.place, is.within) in
    let column : next.column ≡ get_or columns i next.column = is.column ∙ ap (λ (k : ℕ). get_or columns k next.column) is.place in
    let push : PushesCell (is_wanted w i) l (get_or columns i next.column) (field_of next) old new b = subst (λ (c : ColumnType). PushesCell (is_wanted w i) l c (field_of next) old new b) column (subst (λ (k : ℕ). PushesCell (is_wanted w k) l next.column (field_of next) old new b) is.place pushes) in
    let moved : i + 1 ≡ walk.place = omega (arith, is.walked.place, length-append h.fields (field_of next ∷ [])) in
    record {
      fields = h.fields ++ field_of next ∷ [];
      flags = h.flags ++ b ∷ [];
      walked = is.walked;
      cells = subst (λ (k : ℕ). AreCellsIn w 0 l (take k columns) (h.fields ++ field_of next ∷ []) new (h.flags ++ b ∷ [])) moved (more_cells w l columns i h.fields (field_of next) next.column old new h.flags b inside cells push);
      count = refused_push h.flags b n m h.count counted;
    }

-- the same of a row whose cells are put at their places
pub more_at : (w : List Bool) (d : ℕ) (l : Reading) (columns : List ColumnType) (bytes : List ℕ) (old_walk walk : FieldWalk) (next : ColumnField) (old new : List Scalar) (b : Bool) (n m : ℕ) → (h : Begun w d l columns bytes old_walk (take old_walk.place old) n) → IsNext d l columns bytes walk h.fields next
    → PushesCell (is_wanted w next.place) l next.column (field_of next) (take next.place old) (take (next.place + 1) new) b → m ≡ n + cond b 1 0 → Begun w d l columns bytes walk (take walk.place new) m
more_at w d l columns bytes old_walk walk next old new b n m h is pushes counted =
    let here : next.place ≡ old_walk.place = is.place ∙ sym h.walked.place in
    let moved : next.place + 1 ≡ walk.place = omega (arith, is.place, is.walked.place, length-append h.fields (field_of next ∷ [])) in
    more w d l columns bytes old_walk walk next (take old_walk.place old) (take walk.place new) b n m h is
    (subst (λ (k : ℕ). PushesCell (is_wanted w next.place) l next.column (field_of next) (take k old) (take walk.place new) b) here
    (subst (λ (k : ℕ). PushesCell (is_wanted w next.place) l next.column (field_of next) (take next.place old) (take k new) b) moved pushes)) counted

-- behind the last one
pub ended : (w : List Bool) (d : ℕ) (l : Reading) (columns : List ColumnType) (bytes : List ℕ) (walk new : FieldWalk) (row : List Scalar) (n : ℕ) → (h : Begun w d l columns bytes walk row n) → ReadsNext d l columns bytes new h.fields None → HasFields w d l columns bytes row n
ended w d l columns bytes walk new row n h none =
    let all : take walk.place columns ≡ columns = take_all walk.place columns (omega (arith, h.walked.place, none.count)) in
    let cells : AreCellsIn w 0 l columns h.fields row h.flags = subst (λ (cs : List ColumnType). AreCellsIn w 0 l cs h.fields row h.flags) all h.cells in
    record { fields = none.row; flags = h.flags; is = none.is; cells = subst (λ (fs : List Field). AreCellsIn w 0 l columns fs row h.flags) (sym none.fields_are) cells; count = h.count }

-- ---- fields that are taken

field_taken : (w : Bool) (l : Reading) (c : ColumnType) (f : Field) (x : Scalar) (b : Bool) → IsTakenIf w l c f x b → Takes l c f
field_taken true l c f x false h = (false, (scalar_content x, h.content))
field_taken true l c f x true h = (true, (h.asked, h.none, h.takes))
field_taken false l c f x b h = (b, h)

pub none_taken : (l : Reading) (cs : List ColumnType) → AreTaken l cs []
none_taken l [] = tt
none_taken l (c ∷ cs) = tt

cells_taken : (w : List Bool) (k : ℕ) (l : Reading) (cs more : List ColumnType) (fs : List Field) (xs : List Scalar) (bs : List Bool) → AreCellsIn w k l cs fs xs bs → AreTaken l (cs ++ more) fs
cells_taken w k l [] more [] [] [] h = none_taken l more
cells_taken w k l [] more [] [] (b ∷ bs) h = absurd h
cells_taken w k l [] more [] (x ∷ xs) bs h = absurd h
cells_taken w k l [] more (f ∷ fs) xs bs h = absurd h
cells_taken w k l (c ∷ cs) more [] xs bs h = absurd h
cells_taken w k l (c ∷ cs) more (f ∷ fs) [] bs h = absurd h
cells_taken w k l (c ∷ cs) more (f ∷ fs) (x ∷ xs) [] h = absurd h
cells_taken w k l (c ∷ cs) more (f ∷ fs) (x ∷ xs) (b ∷ bs) h = (field_taken (is_wanted w k) l c f x b h.0, cells_taken w (suc k) l cs more fs xs bs h.1)

pub begun_taken : (w : List Bool) (d : ℕ) (l : Reading) (columns : List ColumnType) (bytes : List ℕ) (walk : FieldWalk) (row : List Scalar) (n : ℕ) → (h : Begun w d l columns bytes walk row n) → AreTaken l columns h.fields
begun_taken w d l columns bytes walk row n h =
    subst (λ (cs : List ColumnType). AreTaken l cs h.fields) (take-append-drop walk.place columns) (cells_taken w 0 l (take walk.place columns) (drop walk.place columns) h.fields row h.flags h.cells)

-- ---- the scalar at a place

pub stands_at : {X : Type 0} (xs : List X) (i : ℕ) → i < length xs → (x : X) × (take (i + 1) xs ≡ take i xs ++ x ∷ [])
stands_at [] i inside = absurd (omega arith)
stands_at (x ∷ xs) i inside = (get_or (x ∷ xs) i x, (take_at_read (x ∷ xs) i x inside).1)

front_stays : {X : Type 0} (xs : List X) (k : ℕ) (x : X) → k ≤ length xs → take k (xs ++ x ∷ []) ≡ take k xs
front_stays xs zero x h = refl
front_stays [] (suc k) x h = absurd (omega (arith, h))
front_stays (y ∷ ys) (suc k) x h = ap (λ l. y ∷ l) (front_stays ys k x (omega (arith, h)))

-- one is put behind the last, at this place
pub put_behind : {A E X : Type 0} (r : Result A E) (old new : List X) (i : ℕ) (x : X) → OnOk r (new ≡ old ++ x ∷ []) → length old ≡ i → OnOk r ((y : X) × (take (i + 1) new ≡ take i old ++ y ∷ []))
put_behind {X = X} (Ok a) old new i x is long =
    let count : length new ≡ length old + 1 = ap length is ∙ length-append old (x ∷ []) in
    (x, take_all (i + 1) new (omega (arith, count, long)) ∙ is ∙ ap (λ (l : List X). l ++ x ∷ []) (sym (take_all i old (omega (arith, long)))))
put_behind {X = X} (Err e) old new i x is long = tt

pub kept_before : {A E X : Type 0} (r : Result A E) (old new : List X) (i : ℕ) (x : X) → OnOk r (new ≡ old ++ x ∷ []) → length old ≡ i → OnOk r (take i new ≡ take i old)
kept_before {X = X} (Ok a) old new i x is long = ap (λ (l : List X). take i l) is ∙ front_stays old i x (omega (arith, long))
kept_before {X = X} (Err e) old new i x is long = tt

pub reaches_behind : {A E : Type 0} (r : Result A E) (old new : List Scalar) (i : ℕ) (x : Scalar) → OnOk r (new ≡ old ++ x ∷ []) → length old ≡ i → OnOk r (ReachesPast i old new)
reaches_behind (Ok a) old new i x is long =
    let count : length new ≡ length old + 1 = ap length is ∙ length-append old (x ∷ []) in
    record { reaches = omega (arith, count, long); grown = λ n few below. omega (arith, count, long, few, below) }
reaches_behind (Err e) old new i x is long = tt

-- one that is put at a place where another stands
pub put_over : {X : Type 0} (old filled : List X) (i : ℕ) (x : X) → i < length filled → take i filled ≡ take i old → take (i + 1) (set filled i x) ≡ take i old ++ x ∷ []
put_over {X = X} old filled i x inside kept = ap (λ (n : ℕ). take n (set filled i x)) next ∙ over filled i inside ∙ ap (λ (l : List X). l ++ x ∷ []) kept
  where
    next : i + 1 ≡ suc i
    next = omega arith

    over : (xs : List X) (k : ℕ) → k < length xs → take (suc k) (set xs k x) ≡ take k xs ++ x ∷ []
    over [] k h = absurd (omega (arith, h))
    over (y ∷ ys) zero h = refl
    over (y ∷ ys) (suc k) h = ap (λ (l : List X). y ∷ l) (over ys k (omega (arith, h)))

-- ---- the row of a record

not_both : true ≡ false → ⊥
not_both e = absurd cc

pub not_empty : (xs : List ℕ) (b : Bool) → b ≡ (length xs == 0) → b ≡ false → xs ≢ []
not_empty xs b is other none = not_both (sym (ap (λ (l : List ℕ). length l == 0) none) ∙ sym is ∙ other)

pub is_row : (w : List Bool) (d : ℕ) (l : Reading) (columns : List ColumnType) (line start : List ℕ) (row : List Scalar) (n : ℕ) → rows_of d line ≡ field_rows d start → HasFields w d l columns start row n → IsRowIn w d l columns line row n
is_row w d l columns line start row n same h = record { fields = h.fields; flags = h.flags; is = same ∙ h.is; cells = h.cells; count = h.count }

-- a row of which each cell is wanted
pub is_whole_row : (d : ℕ) (l : Reading) (columns : List ColumnType) (line : List ℕ) (row : List Scalar) (n : ℕ) → IsRowIn [] d l columns line row n → IsRow d l columns line row n
is_whole_row d l columns line row n h = record { fields = h.fields; flags = h.flags; is = h.is; cells = all_cells 0 l columns (fitted l.is_lenient columns h.fields) row h.flags h.cells; count = h.count }

pub whole_rows : {E : Type 0} (d : ℕ) (l : Reading) (columns : List ColumnType) (line : List ℕ) (row : List Scalar) (r : Result (Option ℕ) E) → IfOk r (λ o. MatchOption o (rows_of d line ≡ []) (IsRowIn [] d l columns line row)) → IfOk r (λ o. MatchOption o (rows_of d line ≡ []) (IsRow d l columns line row))
whole_rows d l columns line row (Ok None) h = h
whole_rows d l columns line row (Ok (Some n)) h = is_whole_row d l columns line row n h
whole_rows d l columns line row (Err e) h = tt

pub refused_row : (d : ℕ) (l : Reading) (columns : List ColumnType) (line start : List ℕ) (fault : RowReadError) → rows_of d line ≡ field_rows d start → RefusesFields d l columns start fault → Refuses d l columns line fault
refused_row d l columns line start fault same h = subst (λ (rows : List (List Field)). RefusesRows l columns rows fault) (sym same) h

pub one_at_most : (b : Bool) → cond b 1 0 ≤ 1
one_at_most true = omega arith
one_at_most false = omega arith
