-- Statistics of columns are gathered, and their encodings joined.
use Rattle.std.proofs.Common.{◌≡◌, ◌<◌, ◌≤◌, ◌+◌, ◌^◌, ◌++◌, inl, inr, ℕ, zero, suc, List, [], ◌∷◌, Bool, true, false, if◌then◌else◌, Option, None, Some, Result, Ok, Err, IfSome, Ordering, Contains, refl, sym, ap, ◌∙◌, subst, length, take, arith, get_or, append_assoc, append-nil, option_map, take_all, is_some, count_by}
use Rattle.std.specs.Int.{to_le_bytes, w64}
use Rattle.std.specs.List.{AllByRecursion, cons_option, filter_map, flat_map}
use Rattle.std.specs.Prelude.{OnOk}
use Rattle.std.specs.Result.{is_ok}
use Rattle.std.proofs.lemmas.Grind.{flat_map-append, take_at_read}
use Rattle.std.proofs.lemmas.List.Recursion.{is_count_by}
use Rattle.csv_records.specs.Records.{records_of}
use Rattle.record_rows.specs.Cells.{column_type}
use Rattle.record_rows.specs.declared.schema.ColumnType.{ColumnType}
use Rattle.record_rows.specs.declared.schema.Kind.TheVariants as kinds
use Rattle.vortex_dtype.specs.TypeTree.{Same, TypeTree}
use Rattle.vortex_dtype.specs.declared.nullability.Nullability.TheVariants.{NonNullable}
use Rattle.filter_pruning.specs.Pruning.{column}
use Rattle.vortex_cells.specs.Cells.{Cell, IsUpTo, cell_order, order_from_above}
use Rattle.statistics_bytes.specs.Encoding.{AreOf, IsHeldKnown, encoding}
use Rattle.statistics_bytes.specs.EncodingAnswers.{AreTyped}
use Rattle.vortex_statistics.specs.Statistics.{AreRight, IsLowerBound, IsUpperBound, known, known_bound}
use Rattle.vortex_statistics.specs.Truncating.{IsTruncatedLower, IsTruncatedUpper}
use Rattle.vortex_statistics.specs.declared.column_statistics.Bound.{Bound}
use Rattle.vortex_statistics.specs.declared.column_statistics.ColumnStatistics.{ColumnStatistics}
use Rattle.vortex_value.specs.Equality.{same_type}
use Rattle.vortex_value.specs.Lemmas.EqualityLaws.{same_type-Decides}
use Rattle.vortex_value.specs.Order.{order}
use Rattle.zone_index.specs.Encoding.{bytes_encoding}
use Rattle.record_search.specs.Searched.{AreDescribed, AreDescribedBy, AreDescribedFully, AreEncoded, AreRowsOf, IsCutOf, IsFullOf, IsRightEncoding, IsRightOf}
use Rattle.record_search.proofs.RowLaws.{cell_typed}

-- ---- columns

column_typed : (cs : List ColumnType) (rows : List (List Cell)) (k : ℕ) (d : ColumnType) → AreRowsOf cs rows → k < length cs → AllByRecursion (λ x. x.typed ≡ column_type (get_or cs k d)) (column k rows)
column_typed cs [] k d h below = tt
column_typed cs (row ∷ rows) k d h below = (cell_typed cs row k d h.0 below, column_typed cs rows k d h.1 below)

at_cell : (P : Cell → Type 0) (cells : List Cell) (x : Cell) (k : ℕ) → AllByRecursion P cells → k < length cells → P (get_or cells k x)
at_cell P [] x k h below = absurd (omega arith)
at_cell P (c ∷ cs) x zero h below = h.0
at_cell P (c ∷ cs) x (suc k) h below = at_cell P cs x k h.1 (omega arith)

each_cell : (P : Cell → Type 0) (cells : List Cell) → AllByRecursion P cells → (x : Cell) → Contains cells x → P x
each_cell P cells h x c = subst P c.2 (at_cell P cells x c.0 h c.1)

-- ---- types of bounds

-- two cells that compare have one type
ordered_same : (s t : TypeTree) (o r : Option Ordering) (q : Ordering) (b : Bool) → same_type s t ≡ b → (if b then o else None) ≡ Some q → Same s t
ordered_same s t o r q true e h = (same_type-Decides s t).0 e
ordered_same s t o r q false e h = absurd cc

compare_same : (x y : Cell) (q : Ordering) → cell_order x y ≡ Some q → Same x.typed y.typed
compare_same x y q h = ordered_same x.typed y.typed (order x.content y.content) None q (same_type x.typed y.typed) refl h

up_to_same : (x y : Cell) → IsUpTo cell_order x y → Same x.typed y.typed
up_to_same x y (inl h) = compare_same x y _ h
up_to_same x y (inr h) = compare_same x y _ h

up_from_same : (x y : Cell) → IsUpTo order_from_above x y → Same y.typed x.typed
up_from_same x y (inl h) = compare_same y x _ h
up_from_same x y (inr h) = compare_same y x _ h

same_at : (s t u : TypeTree) → Same s t → t ≡ u → Same s u
same_at s t u h e = subst (λ (v : TypeTree). Same s v) e h

lower_typed : (t : TypeTree) (n : ℕ) (cells : List Cell) (w s : Option Bound) → AllByRecursion (λ x. x.typed ≡ t) cells → IfSome (option_map known_bound w) (λ b. b.is_exact ≡ true) → IfSome (option_map known_bound w) (λ b. IsLowerBound b cells)
    → IsTruncatedLower n w s → IfSome (option_map known_bound s) (λ b. IsLowerBound b cells) → IfSome (option_map known_bound s) (λ b. Same b.value.typed t)
lower_typed t n cells w None all exact whole cut right = tt
lower_typed t n cells None (Some b) all exact whole cut right = absurd cc
lower_typed t n cells (Some a) (Some b) all exact whole cut right =
    let one = whole.exact exact in
    same_at _ one.0.typed t (up_to_same _ one.0 (right.bounds one.0 one.1)) (each_cell (λ x. x.typed ≡ t) cells all one.0 one.1.cell)

upper_typed : (t : TypeTree) (n : ℕ) (cells : List Cell) (w s : Option Bound) → AllByRecursion (λ x. x.typed ≡ t) cells → IfSome (option_map known_bound w) (λ b. b.is_exact ≡ true) → IfSome (option_map known_bound w) (λ b. IsUpperBound b cells)
    → IsTruncatedUpper n w s → IfSome (option_map known_bound s) (λ b. IsUpperBound b cells) → IfSome (option_map known_bound s) (λ b. Same b.value.typed t)
upper_typed t n cells w None all exact whole cut right = tt
upper_typed t n cells None (Some b) all exact whole cut right = absurd cc
upper_typed t n cells (Some a) (Some b) all exact whole cut right =
    let one = whole.exact exact in
    same_at _ one.0.typed t (sym (up_from_same _ one.0 (right.bounds one.0 one.1))) (each_cell (λ x. x.typed ≡ t) cells all one.0 one.1.cell)

cut_typed : (t : TypeTree) (n : ℕ) (cells : List Cell) (s : ColumnStatistics) → AllByRecursion (λ x. x.typed ≡ t) cells → IsCutOf n cells s → AreRight (known s) cells → AreTyped t (known s)
cut_typed t n cells s all h right =
    record {
      lower = lower_typed t n cells h.whole.lower s.lower all h.complete.exact.lower h.complete.right.lower h.cut.lower right.lower;
      upper = upper_typed t n cells h.whole.upper s.upper all h.complete.exact.upper h.complete.right.upper h.cut.upper right.upper;
    }

-- ---- encodings

encodings_push : (Is : ColumnType → List Cell → List ℕ → Type 0) (k : ℕ) (cs : List ColumnType) (c : ColumnType) (rows : List (List Cell)) (ps : List (List ℕ)) (p : List ℕ) → AreEncoded Is k cs rows ps → Is c (column (k + length cs) rows) p → AreEncoded Is k (cs ++ c ∷ []) rows (ps ++ p ∷ [])
encodings_push Is k [] c rows [] p h new = let e : k + 0 ≡ k = omega arith in (subst (λ (j : ℕ). Is c (column j rows) p) e new, tt)
encodings_push Is k [] c rows (q ∷ ps) p h new = absurd h
encodings_push Is k (b ∷ cs) c rows [] p h new = absurd h
encodings_push Is k (b ∷ cs) c rows (q ∷ ps) p h new =
    let e : k + suc (length cs) ≡ suc k + length cs = omega arith in
    (h.0, encodings_push Is (suc k) cs c rows ps p h.1 (subst (λ (j : ℕ). Is c (column j rows) p) e new))

pub none_described : (Is : ColumnType → List Cell → List ℕ → Type 0) (columns : List ColumnType) (rows : List (List Cell)) (output : List ℕ) → output ≡ [] → AreDescribedBy Is (take 0 columns) rows output
none_described Is columns rows output e = record { encodings = []; is = e; each = tt }

pub some_column : ColumnType
some_column = record { kind = kinds.Utf8; nullability = NonNullable }

-- the bytes of a column more
described_by : (Is : ColumnType → List Cell → List ℕ → Type 0) (columns : List ColumnType) (rows : List (List Cell)) (k : ℕ) (bytes output new : List ℕ) → k < length columns → AreDescribedBy Is (take k columns) rows output → Is (get_or columns k some_column) (column k rows) bytes
    → new ≡ output ++ bytes_encoding bytes → AreDescribedBy Is (take (k + 1) columns) rows new
described_by Is columns rows k bytes output new below before one appended =
    let c = get_or columns k some_column in
    let more : take (k + 1) columns ≡ take k columns ++ c ∷ [] = (take_at_read columns k some_column below).1 in
    let long : length (take k columns) ≡ k = length_front columns k below in
    let here : Is c (column (0 + length (take k columns)) rows) bytes = let e : k ≡ 0 + length (take k columns) = omega arith in subst (λ (j : ℕ). Is c (column j rows) bytes) e one in
    subst (λ (cs : List ColumnType). AreDescribedBy Is cs rows new) (sym more) (record {
      encodings = before.encodings ++ bytes ∷ [];
      is = appended ∙ ap (λ (l : List ℕ). l ++ bytes_encoding bytes) before.is ∙ ap (λ (l : List ℕ). flat_map bytes_encoding before.encodings ++ l) (sym (append-nil (bytes_encoding bytes))) ∙ sym (flat_map-append bytes_encoding before.encodings (bytes ∷ []));
      each = encodings_push Is 0 (take k columns) c rows before.encodings bytes before.each here;
    })
  where
    length_front : (cs : List ColumnType) (j : ℕ) → j < length cs → length (take j cs) ≡ j
    length_front cs zero h = refl
    length_front [] (suc j) h = absurd (omega arith)
    length_front (b ∷ cs) (suc j) h = ap suc (length_front cs j (omega arith))

-- such statistics are right for a column
right_encoding : (columns : List ColumnType) (rows : List (List Cell)) (k n : ℕ) (s : ColumnStatistics) → k < length columns → AreRowsOf columns rows → IsCutOf n (column k rows) s → AreRight (known s) (column k rows) → IsHeldKnown (known s) → length (encoding (known s)) < 2 ^ 64
    → IsRightEncoding (column_type (get_or columns k some_column)) (column k rows) (encoding (known s))
right_encoding columns rows k n s below of cut right held fits = record {
  fits = fits;
  statistics = known s;
  held = held;
  is = refl;
  typed = cut_typed (column_type (get_or columns k some_column)) n (column k rows) s (column_typed columns rows k some_column of below) cut right;
  right = right;
}

-- a column more
pub described_more : (columns : List ColumnType) (rows : List (List Cell)) (k n : ℕ) (s : ColumnStatistics) (output new : List ℕ) → k < length columns → AreRowsOf columns rows → AreDescribed (take k columns) rows output
    → IsCutOf n (column k rows) s → AreRight (known s) (column k rows) → IsHeldKnown (known s) → length (encoding (known s)) < 2 ^ 64 → new ≡ output ++ bytes_encoding (encoding (known s)) → AreDescribed (take (k + 1) columns) rows new
described_more columns rows k n s output new below of before cut right held fits appended =
    described_by IsRightOf columns rows k (encoding (known s)) output new below before (inr (right_encoding columns rows k n s below of cut right held fits)) appended

-- the same, of all that is to be known
pub fully_more : (columns : List ColumnType) (rows : List (List Cell)) (k n : ℕ) (s : ColumnStatistics) (output new : List ℕ) → k < length columns → AreRowsOf columns rows → AreDescribedFully n (take k columns) rows output
    → IsCutOf n (column k rows) s → AreRight (known s) (column k rows) → IsHeldKnown (known s) → AreOf (column_type (get_or columns k some_column)) (known s) → length (encoding (known s)) < 2 ^ 64 → new ≡ output ++ bytes_encoding (encoding (known s))
    → AreDescribedFully n (take (k + 1) columns) rows new
fully_more columns rows k n s output new below of before cut right held of_type fits appended =
    described_by (IsFullOf n) columns rows k (encoding (known s)) output new below before
    (right_encoding columns rows k n s below of cut right held fits, record { statistics = s; of_type = of_type; right = right; cut = cut; is = refl }) appended

-- ---- records

filter_more : (h : List ℕ → Option (List Cell)) (line : List ℕ) (lines : List (List ℕ)) → filter_map h (line ∷ lines) ≡ filter_map h (line ∷ []) ++ filter_map h lines
filter_more h line lines = by_row (h line) refl
  where
    by_row : (o : Option (List Cell)) → h line ≡ o → cons_option (h line) (filter_map h lines) ≡ cons_option (h line) [] ++ filter_map h lines
    by_row None e = rw e refl
    by_row (Some row) e = rw e refl

-- the rows of one record more
pub rows_more : (h : List ℕ → Option (List Cell)) (d : ℕ) (text line rest : List ℕ) (old new all : List (List Cell)) → records_of d text ≡ line ∷ records_of d rest → old ++ filter_map h (records_of d text) ≡ all → new ≡ old ++ filter_map h (line ∷ []) → new ++ filter_map h (records_of d rest) ≡ all
rows_more h d text line rest old new all cut before pushed =
    ap (λ (l : List (List Cell)). l ++ filter_map h (records_of d rest)) pushed ∙ append_assoc old (filter_map h (line ∷ [])) (filter_map h (records_of d rest))
    ∙ ap (λ (l : List (List Cell)). old ++ l) (sym (filter_more h line (records_of d rest)) ∙ ap (filter_map h) (sym cut)) ∙ before

-- the rows with this one, if there is one
abbrev pub with_row : List (List Cell) → Option (List Cell) → List (List Cell)
with_row old None = old
with_row old (Some row) = old ++ row ∷ []

pub row_pushed : (h : List ℕ → Option (List Cell)) (line : List ℕ) (o : Option (List Cell)) (old new : List (List Cell)) → h line ≡ o → new ≡ with_row old o → new ≡ old ++ filter_map h (line ∷ [])
row_pushed h line None old new e is = is ∙ sym (append-nil old) ∙ ap (λ (r : Option (List Cell)). old ++ cons_option r []) (sym e)
row_pushed h line (Some row) old new e is = is ∙ ap (λ (r : Option (List Cell)). old ++ cons_option r []) (sym e)

-- all columns
pub all_described : (Is : ColumnType → List Cell → List ℕ → Type 0) (columns : List ColumnType) (rows : List (List Cell)) (k : ℕ) (output : List ℕ) → length columns ≤ k → AreDescribedBy Is (take k columns) rows output → AreDescribedBy Is columns rows output
all_described Is columns rows k output ended h = subst (λ (cs : List ColumnType). AreDescribedBy Is cs rows output) (take_all k columns ended) h

-- the length of an encoding and the encoding itself, one after the other
pub encoding_pushed : {T E : Type 0} (r : Result T E) (old one two bytes f : List ℕ) (n : ℕ) → one ≡ old ++ to_le_bytes w64 n → n ≡ length bytes → bytes ≡ f → two ≡ (if is_ok r then one ++ bytes else one) → OnOk r (two ≡ old ++ bytes_encoding f)
encoding_pushed (Ok x) old one two bytes f n before count same h =
    let whole : to_le_bytes w64 n ++ bytes ≡ bytes_encoding f = ap (λ (m : ℕ). to_le_bytes w64 m ++ bytes) count ∙ ap bytes_encoding same in
    h ∙ ap (λ (l : List ℕ). l ++ bytes) before ∙ append_assoc old (to_le_bytes w64 n) bytes ∙ ap (λ (l : List ℕ). old ++ l) whole
encoding_pushed (Err e) old one two bytes f n before count same h = tt

-- ---- how many rows

count_one : (o : Option (List Cell)) (rest : List (List Cell)) → length (cons_option o rest) ≡ (if is_some o then 1 + length rest else length rest)
count_one None rest = refl
count_one (Some row) rest = let more : suc (length rest) ≡ 1 + length rest = omega arith in more

-- as many rows as records that have one
pub rows_counted : (h : List ℕ → Option (List Cell)) (records : List (List ℕ)) → length (filter_map h records) ≡ count_by (λ line. is_some (h line)) records
rows_counted h records = is_count_by (λ (lines : List (List ℕ)). length (filter_map h lines)) (λ line. is_some (h line)) refl (λ line lines. count_one (h line) (filter_map h lines)) records
