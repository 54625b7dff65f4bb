-- The rows of records are observed, one after another.
use Rattle.std.proofs.Common.{◌≡◌, ◌<◌, ◌≤◌, ◌+◌, ◌^◌, ◌++◌, ℕ, zero, suc, List, [], ◌∷◌, Bool, true, false, if◌then◌else◌, Option, None, Some, Result, Ok, Err, IfSome, MatchOption, Ordering, is_none, is_some, option_map, unwrap_or, refl, sym, ap, ◌∙◌, subst, get_or, length, map, take, arith, nat_lt, append_assoc, append-nil, length-append}
use Rattle.std.specs.Int.{from_bool}
use Rattle.std.specs.List.{AllByRecursion, filter_map, sum_by}
use Rattle.std.specs.Prelude.{OnOk}
use Rattle.csv_records.specs.Records.{records_of}
use Rattle.std.proofs.lemmas.List.{length-map, map-append}
use Rattle.std.proofs.lemmas.List.Sums.{sum_by-append}
use Rattle.csv_records.specs.Rows.{Field, rows_of}
use Rattle.record_rows.specs.Cells.{column_type}
use Rattle.record_rows.specs.Readings.{Reading, is_null_field}
use Rattle.record_rows.specs.Rows.{fitted, refused_of}
use Rattle.record_rows.specs.declared.observing.RowNotes.{RowNotes}
use Rattle.record_rows.specs.declared.schema.ColumnType.{ColumnType}
use Rattle.record_rows.specs.declared.schema.Schema.{Schema}
use Rattle.record_rows.specs.Observed.{AreFieldsObserved, HasBoundsOf, HaveTypes, IsObserved, IsStep, IsTakenAs, SomeIsFull, Step, cell_in}
use Rattle.vortex_filter.specs.Formula.{cell_at}
use Rattle.filter_pruning.specs.Pruning.{column}
use Rattle.vortex_cells.specs.Cells.{Cell, cell_order, order_from_above}
use Rattle.vortex_dtype.specs.TypeTree.{TypeTree, binary_type, utf8_type}
use Rattle.statistics_bytes.specs.Encoding.{AreOf, IsBoundOf, IsHeldBound, IsHeldKnown, encoding}
use Rattle.vortex_statistics.specs.Statistics.{AreComplete, AreRight, HasValidBounds, IsBound, IsValidBound, KnownBound, known, known_bound}
use Rattle.vortex_statistics.specs.Truncating.{AreTruncated, IsTruncatedLower, IsTruncatedUpper, LowerAt, UpperAt}
use Rattle.vortex_statistics.specs.declared.column_statistics.Bound.{Bound}
use Rattle.vortex_statistics.specs.declared.column_statistics.ColumnStatistics.{ColumnStatistics}
use Rattle.vortex_value.specs.Validity.{Valid}
use Rattle.vortex_value.specs.Values.Content.{Content}
use Rattle.vortex_value.specs.Values.RawTree.{RawTree, raw_bytes, raw_text}
use Rattle.vortex_value.specs.Values.Scalars.{scalar_raw, scalar_type}
use Rattle.zone_index.specs.Encoding.{bytes_encoding}
use Rattle.zone_index.specs.Sinks.{told}
use Rattle.record_search.specs.Contents.{cells_of, field_content, only_row, row_of}
use Rattle.record_search.specs.Searched.{AreAllComplete, AreAllValid, AreAllWith, AreDescribed, AreDescribedFully, AreRowsOf, IsCutOf, IsFullOf, IsRightOf, ObservesRow, PushesCut, is_refused, longer_of, longer_under, nulls_under, row_under, strict, untaken, untaken_of}
use Rattle.record_search.proofs.DescribeLaws.{all_described, described_more, fully_more, none_described, row_pushed, rows_more, some_column}
use Rattle.record_search.proofs.DecodeLaws.{no_variant}
use Rattle.record_search.proofs.RefusedLaws.{passed_none, passed_row}
use Rattle.record_search.proofs.RowLaws.{WordsSay, cell_field, no_content, no_row, null_field}

-- ---- the row of a record

abbrev step_cell : Step → Cell
step_cell s = cell_in s.column s.content

content_taken : WordsSay → (l : Reading) (column : ColumnType) (f : Field) (c : Content) (b : Bool) → IsTakenAs l column f c b → field_content l column f ≡ Some c
content_taken say l column f c false h = cell_field say l column f c (is_null_field l column.nullability f) refl h
content_taken say l column f c true h = null_field say l column f (is_null_field l column.nullability f) refl h.0 h.2 h.1 ∙ ap (λ (d : Content). Some d) (sym h.3)

step_cells : WordsSay → (l : Reading) (steps : List Step) → AllByRecursion (IsStep l) steps → cells_of l (map (λ s. s.column) steps) (map (λ s. s.field) steps) ≡ Some (map step_cell steps)
step_cells say l [] h = refl
step_cells say l (s ∷ steps) h = rw (content_taken say l s.column s.field s.content s.flag h.0.0, step_cells say l steps h.1) refl

steps_with : (l : Reading) (steps : List Step) → AllByRecursion (IsStep l) steps → AreAllWith (map (λ s. s.old) steps) (map step_cell steps) (map (λ s. s.new) steps)
steps_with l [] h = tt
steps_with l (s ∷ steps) h = (h.0.1.complete, steps_with l steps h.1)

fields_observed : WordsSay → (l : Reading) (columns : List ColumnType) (fields : List Field) (old new : List ColumnStatistics) (n : ℕ) (h : AreFieldsObserved l columns fields old new n) → (cells_of l columns fields ≡ Some (map step_cell h.steps)) × AreAllWith old (map step_cell h.steps) new
fields_observed say l columns fields old new n h = (
  ap (λ (cs : List ColumnType). cells_of l cs fields) h.columns_are ∙ ap (cells_of l (map (λ (s : Step). s.column) h.steps)) h.fields_are ∙ step_cells say l h.steps h.each,
  subst (λ (xs : List ColumnStatistics). AreAllWith xs (map step_cell h.steps) new) (sym h.old_are) (subst (λ (xs : List ColumnStatistics). AreAllWith (map (λ (s : Step). s.old) h.steps) (map step_cell h.steps) xs) (sym h.new_are) (steps_with l h.steps h.each)),
)

-- what was observed of a record is its row
pub row_observed : WordsSay → (d : ℕ) (l : Reading) (columns : List ColumnType) (line : List ℕ) (old new : List ColumnStatistics) (refused : Option RowNotes) → MatchOption refused ((rows_of d line ≡ []) × (new ≡ old)) (IsObserved d l columns line old new) → ObservesRow (is_some refused) (row_of d l columns line) old new
row_observed say d l columns line old new (Some n) h =
    let p = fields_observed say l columns (fitted l.is_lenient columns h.0) old new n.refused h.2.0 in
    rw (ap (only_row l columns) h.1 ∙ p.0) p.1
row_observed say d l columns line old new None h = rw (no_row d l columns line h.0) h.1

observes_some : (o : Option (List Cell)) (old new : List ColumnStatistics) → ObservesRow true o old new → (row : List Cell) × (o ≡ Some row)
observes_some (Some cells) old new h = (cells, refl)
observes_some None old new h = absurd h

-- a record that was observed is not refused
pub passed_observed : WordsSay → (s : Schema) (line : List ℕ) (old new : List ColumnStatistics) (refused : Option RowNotes) → MatchOption refused ((rows_of s.delimiter.byte line ≡ []) × (new ≡ old)) (IsObserved s.delimiter.byte s.reading s.columns.items line old new) → is_refused s line ≡ false
passed_observed say s line old new None h = passed_none s line h.0
passed_observed say s line old new (Some n) h =
    let some = observes_some (row_under s line) old new (row_observed say s.delimiter.byte s.reading s.columns.items line old new (Some n) h) in
    passed_row s line some.0 some.1

-- ---- valid bounds

steps_valid : (l : Reading) (steps : List Step) → AllByRecursion (IsStep l) steps → AreAllValid (map (λ s. s.old) steps) → AreAllValid (map (λ s. s.new) steps)
steps_valid l [] h valid = tt
steps_valid l (s ∷ steps) h valid = (h.0.2 valid.0, steps_valid l steps h.1 valid.1)

-- bounds stay valid
pub valid_observed : (s : Schema) (line : List ℕ) (old new : List ColumnStatistics) (notes : Option RowNotes) → MatchOption notes ((rows_of s.delimiter.byte line ≡ []) × (new ≡ old)) (IsObserved s.delimiter.byte s.reading s.columns.items line old new)
    → AreAllValid old → AreAllValid new
valid_observed s line old new None h valid = subst AreAllValid (sym h.1) valid
valid_observed s line old new (Some n) h valid = subst AreAllValid (sym h.2.0.new_are) (steps_valid s.reading h.2.0.steps h.2.0.each (subst AreAllValid h.2.0.old_are valid))

-- ---- nulls in place of fields

none_is : {A : Type 0} (o : Option A) → o ≡ None → is_none o ≡ true
none_is o e = ap is_none e

some_is : {A : Type 0} (o : Option A) (x : A) → o ≡ Some x → is_none o ≡ false
some_is o x e = ap is_none e

flag_is : WordsSay → (l : Reading) (column : ColumnType) (f : Field) (c : Content) (b : Bool) → IsTakenAs l column f c b → is_none (field_content (strict l) column f) ≡ b
flag_is say l column f c false h = some_is (field_content (strict l) column f) c (cell_field say (strict l) column f c (is_null_field l column.nullability f) refl h)
flag_is say l column f c true h = none_is (field_content (strict l) column f) (no_content say l column f (is_null_field l column.nullability f) refl h.1)

count_more : (b : Bool) (bs : List Bool) → (if b then 1 else 0) + refused_of bs ≡ refused_of (b ∷ bs)
count_more b bs = omega (arith, sum_by-append (λ (c : Bool). if c then 1 else 0) (b ∷ []) bs)

steps_untaken : WordsSay → (l : Reading) (steps : List Step) → AllByRecursion (IsStep l) steps → untaken l (map (λ s. s.column) steps) (map (λ s. s.field) steps) ≡ refused_of (map (λ s. s.flag) steps)
steps_untaken say l [] h = refl
steps_untaken say l (s ∷ steps) h = rw (flag_is say l s.column s.field s.content s.flag h.0.0, steps_untaken say l steps h.1) (count_more s.flag (map (λ (t : Step). t.flag) steps))

-- the nulls that stand in place of fields are those of the record
pub nulls_observed : WordsSay → (s : Schema) (line : List ℕ) (old new : List ColumnStatistics) (notes : RowNotes) → IsObserved s.delimiter.byte s.reading s.columns.items line old new notes → notes.refused ≡ nulls_under s line
nulls_observed say s line old new notes h =
    let columns = s.columns.items in
    let fields = fitted s.reading.is_lenient columns h.0 in
    let all : untaken s.reading columns fields ≡ refused_of (map (λ (t : Step). t.flag) h.2.0.steps) =
    ap (λ (cs : List ColumnType). untaken s.reading cs fields) h.2.0.columns_are ∙ ap (untaken s.reading (map (λ (t : Step). t.column) h.2.0.steps)) h.2.0.fields_are ∙ steps_untaken say s.reading h.2.0.steps h.2.0.each in
    h.2.0.count ∙ sym all ∙ sym (ap (untaken_of s.reading columns) h.1)

one_or_none : (b : Bool) → from_bool b ≡ (if b then 1 else 0)
one_or_none true = refl
one_or_none false = refl

-- whether the record is longer is noted
pub longer_observed : (s : Schema) (line : List ℕ) (old new : List ColumnStatistics) (notes : RowNotes) → IsObserved s.delimiter.byte s.reading s.columns.items line old new notes → from_bool notes.is_longer ≡ longer_under s line
longer_observed s line old new notes h =
    let columns = s.columns.items in
    ap from_bool h.2.1 ∙ one_or_none (nat_lt (length columns) (length h.0)) ∙ sym (ap (longer_of columns) h.1)

-- a record without fields has none that are noted
pub none_noted : (s : Schema) (line : List ℕ) → rows_of s.delimiter.byte line ≡ [] → (0 ≡ nulls_under s line) × (0 ≡ longer_under s line)
none_noted s line none = (sym (ap (untaken_of s.reading s.columns.items) none), sym (ap (longer_of s.columns.items) none))

-- the sum over the records so far, as far as 64 bits tell
pub record NullsSeen (f : List ℕ → ℕ) (d : ℕ) (text rest : List ℕ) (nulls : ℕ) : Type 0 where
  pub done : List (List ℕ)
  pub records : records_of d text ≡ done ++ records_of d rest
  pub sum : nulls ≡ told (sum_by f done)

pub nulls_none : (f : List ℕ → ℕ) (d : ℕ) (text : List ℕ) → NullsSeen f d text text 0
nulls_none f d text = let zero_is : 0 ≡ told (sum_by f []) = omega arith in record { done = []; records = refl; sum = zero_is }

pub nulls_more : (f : List ℕ → ℕ) (d : ℕ) (text rest line after : List ℕ) (nulls more sum : ℕ) → records_of d rest ≡ line ∷ records_of d after → NullsSeen f d text rest nulls → more ≡ f line → sum ≡ told (nulls + more) → NullsSeen f d text after sum
nulls_more f d text rest line after nulls more sum cut s is sum_is = record {
  done = s.done ++ line ∷ [];
  records = s.records ∙ ap (λ (l : List (List ℕ)). s.done ++ l) cut ∙ sym (append_assoc s.done (line ∷ []) (records_of d after));
  sum = omega (arith, sum_is, is, s.sum, sum_by-append f s.done (line ∷ []));
}

pub nulls_all : (f : List ℕ → ℕ) (d : ℕ) (text rest : List ℕ) (nulls : ℕ) → rest ≡ [] → NullsSeen f d text rest nulls → nulls ≡ told (sum_by f (records_of d text))
nulls_all f d text rest nulls none s =
    let all : s.done ≡ records_of d text = sym (append-nil s.done) ∙ ap (λ (l : List ℕ). s.done ++ records_of d l) (sym none) ∙ sym s.records in
    s.sum ∙ ap (λ (l : List (List ℕ)). told (sum_by f l)) all

-- ---- one row more

cell_behind : (front : List Cell) (x : Cell) (xs : List Cell) (k : ℕ) → length front ≡ k → cell_at (front ++ x ∷ xs) k ≡ x
cell_behind [] x xs zero e = refl
cell_behind [] x xs (suc k) e = absurd (omega (arith, e))
cell_behind (y ∷ front) x xs zero e = absurd (omega (arith, e))
cell_behind (y ∷ front) x xs (suc k) e = cell_behind front x xs k (omega (arith, e))

complete_from : (k : ℕ) (rows : List (List Cell)) (row front xs : List Cell) (ss ts : List ColumnStatistics) → row ≡ front ++ xs → length front ≡ k → AreAllComplete k rows ss → AreAllWith ss xs ts → AreAllComplete k (rows ++ row ∷ []) ts
complete_from k rows row front [] [] [] is long h w = tt
complete_from k rows row front [] [] (t ∷ ts) is long h w = absurd w
complete_from k rows row front (x ∷ xs) [] ts is long h w = absurd w
complete_from k rows row front [] (s ∷ ss) ts is long h w = absurd w
complete_from k rows row front (x ∷ xs) (s ∷ ss) [] is long h w = absurd w
complete_from k rows row front (x ∷ xs) (s ∷ ss) (t ∷ ts) is long h w =
    let here : cell_at row k ≡ x = ap (λ (r : List Cell). cell_at r k) is ∙ cell_behind front x xs k long in
    let cells : column k (rows ++ row ∷ []) ≡ column k rows ++ x ∷ [] = map-append (λ (r : List Cell). cell_at r k) rows (row ∷ []) ∙ ap (λ (c : Cell). column k rows ++ c ∷ []) here in (
      subst (AreComplete (known t)) (sym cells) (w.0 (column k rows) h.0),
      complete_from (suc k) rows row (front ++ x ∷ []) xs ss ts (is ∙ sym (append_assoc front (x ∷ []) xs)) (length-push front x k long) h.1 w.1,
    )
  where
    length-push : (front : List Cell) (x : Cell) (k : ℕ) → length front ≡ k → length (front ++ x ∷ []) ≡ suc k
    length-push [] x k long = omega (arith, long)
    length-push (y ∷ front) x zero long = absurd (omega (arith, long))
    length-push (y ∷ front) x (suc k) long = ap suc (length-push front x k (omega (arith, long)))

pub complete_with : (rows : List (List Cell)) (row : List Cell) (ss ts : List ColumnStatistics) → AreAllComplete 0 rows ss → AreAllWith ss row ts → AreAllComplete 0 (rows ++ row ∷ []) ts
complete_with rows row ss ts h w = complete_from 0 rows row [] row ss ts refl refl h w

-- ---- one record more

-- the rows that were seen and those of the rest are all, and the statistics are complete for those that were seen
pub record Seen (h : List ℕ → Option (List Cell)) (d : ℕ) (text rest : List ℕ) (rows : ℕ) (statistics : List ColumnStatistics) : Type 0 where
  pub seen : List (List Cell)
  pub all : seen ++ filter_map h (records_of d rest) ≡ filter_map h (records_of d text)
  pub count : rows ≡ length seen
  pub complete : AreAllComplete 0 seen statistics

rows_counted : (k : ℕ) (rows : List (List Cell)) (ss : List ColumnStatistics) (i : ℕ) (s : ColumnStatistics) → AreAllComplete k rows ss → i < length ss → get_or ss i s ≡ s → s.row_count ≡ length rows
rows_counted k rows [] i s h within is = absurd (omega (arith, within))
rows_counted k rows (t ∷ ss) zero s h within is = subst (λ (x : ColumnStatistics). x.row_count ≡ length rows) is (h.0.right.rows ∙ length-map rows (λ (row : List Cell). cell_at row k))
rows_counted k rows (t ∷ ss) (suc i) s h within is = rows_counted (suc k) rows ss i s h.1 (omega (arith, within)) is

-- the statistics of fewer rows than 64 bits count are not full
pub not_full : (h : List ℕ → Option (List Cell)) (d : ℕ) (text rest : List ℕ) (rows : ℕ) (statistics : List ColumnStatistics) → Seen h d text rest rows statistics → rows + 1 < 2 ^ 64 → ¬ (SomeIsFull statistics)
not_full h d text rest rows statistics seen few full =
    let count : full.0.row_count ≡ length seen.seen = rows_counted 0 seen.seen statistics full.1.0 full.0 seen.complete full.1.1 full.1.2 in
    omega (arith, count, seen.count, few, full.2)

-- one row at most
pub at_most_one : (b : Bool) (n : ℕ) → n ≡ from_bool b → n ≤ 1
at_most_one true n is = omega (arith, is)
at_most_one false n is = omega (arith, is)

pub seen_none : (h : List ℕ → Option (List Cell)) (d : ℕ) (text : List ℕ) (statistics : List ColumnStatistics) → AreAllComplete 0 [] statistics → Seen h d text text 0 statistics
seen_none h d text statistics none = record { seen = []; all = refl; count = refl; complete = none }

pub seen_more : (h : List ℕ → Option (List Cell)) (d : ℕ) (text whole line rest : List ℕ) (rows more : ℕ) (has : Bool) (old new : List ColumnStatistics) → records_of d whole ≡ line ∷ records_of d rest → Seen h d text whole rows old → ObservesRow has (h line) old new → more ≡ rows + from_bool has
    → Seen h d text rest more new
seen_more h d text whole line rest rows more has old new cut s observes counted = by_row has (h line) refl observes counted
  where
    by_row : (b : Bool) (o : Option (List Cell)) → h line ≡ o → ObservesRow b o old new → more ≡ rows + from_bool b → Seen h d text rest more new
    by_row true (Some cells) e w n = record {
      seen = s.seen ++ cells ∷ [];
      all = rows_more h d whole line rest s.seen (s.seen ++ cells ∷ []) (filter_map h (records_of d text)) cut s.all (row_pushed h line (Some cells) s.seen (s.seen ++ cells ∷ []) e refl);
      count = omega (arith, n, s.count, length-append s.seen (cells ∷ []));
      complete = complete_with s.seen cells old new s.complete w;
    }
    by_row false None e w n = record {
      seen = s.seen;
      all = rows_more h d whole line rest s.seen s.seen (filter_map h (records_of d text)) cut s.all (row_pushed h line None s.seen s.seen e refl);
      count = omega (arith, n, s.count);
      complete = subst (AreAllComplete 0 s.seen) (sym w) s.complete;
    }
    by_row true None e w n = absurd w
    by_row false (Some cells) e w n = absurd w

-- ---- all records

-- behind the last record all rows were seen
pub seen_all : (h : List ℕ → Option (List Cell)) (d : ℕ) (text rest : List ℕ) (rows : ℕ) (statistics : List ColumnStatistics) → rest ≡ [] → Seen h d text rest rows statistics → (rows ≡ length (filter_map h (records_of d text))) × AreAllComplete 0 (filter_map h (records_of d text)) statistics
seen_all h d text rest rows statistics none s =
    let same : s.seen ≡ filter_map h (records_of d text) = sym (append-nil s.seen) ∙ ap (λ (l : List ℕ). s.seen ++ filter_map h (records_of d l)) (sym none) ∙ s.all in (
      s.count ∙ ap length same,
      subst (λ (l : List (List Cell)). AreAllComplete 0 l statistics) same s.complete,
    )

-- a text with no bytes is empty
pub no_bytes : (text : List ℕ) → length text ≡ 0 → text ≡ []
no_bytes [] none = refl
no_bytes (b ∷ text) none = absurd (omega arith)

-- ---- the statistics of no rows

none_from : (k : ℕ) (ss : List ColumnStatistics) (t : ColumnStatistics) → AreAllComplete k [] ss → AreComplete (known t) [] → AreAllComplete k [] (ss ++ t ∷ [])
none_from k [] t h new = (new, tt)
none_from k (s ∷ ss) t h new = (h.0, none_from (suc k) ss t h.1 new)

pub none_more : (ss : List ColumnStatistics) (t : ColumnStatistics) → AreAllComplete 0 [] ss → AreComplete (known t) [] → AreAllComplete 0 [] (ss ++ t ∷ [])
none_more ss t h new = none_from 0 ss t h new

-- ---- the types of their bounds

no_bound : (t : TypeTree) (cmp : Cell → Cell → Option Ordering) (b : Option KnownBound) → IfSome b (λ b. IsBound cmp b []) → IfSome b (λ b. b.is_exact ≡ true) → IfSome b (λ b. b.value.typed ≡ t)
no_bound t cmp None bounds exact = tt
no_bound t cmp (Some b) bounds exact = let value = bounds.exact exact in absurd (omega (arith, value.1.cell.1))

complete_at : (j : ℕ) (ss : List ColumnStatistics) (k : ℕ) (s : ColumnStatistics) → AreAllComplete j [] ss → k < length ss → AreComplete (known (get_or ss k s)) []
complete_at j [] k s h less = absurd (omega (arith, less))
complete_at j (r ∷ ss) zero s h less = h.0
complete_at j (r ∷ ss) (suc k) s h less = complete_at (suc j) ss k s h.1 (omega (arith, less))

-- statistics of no rows have no bounds
pub none_typed : (columns : List ColumnType) (ss : List ColumnStatistics) → AreAllComplete 0 [] ss → HaveTypes columns ss
none_typed columns ss h k c s below within =
    let t : TypeTree = column_type (get_or columns k c) in
    let none : AreComplete (known (get_or ss k s)) [] = complete_at 0 ss k s h within in
    record {
      lower = no_bound t cell_order (known (get_or ss k s)).lower none.right.lower none.exact.lower;
      upper = no_bound t order_from_above (known (get_or ss k s)).upper none.right.upper none.exact.upper;
    }

no_valid : (cmp : Cell → Cell → Option Ordering) (b : Option Bound) → IfSome (option_map known_bound b) (λ b. IsBound cmp b []) → IfSome (option_map known_bound b) (λ b. b.is_exact ≡ true) → IsValidBound b
no_valid cmp None bounds exact = tt
no_valid cmp (Some b) bounds exact = let value = bounds.exact exact in absurd (omega (arith, value.1.cell.1))

valid_from : (k : ℕ) (ss : List ColumnStatistics) → AreAllComplete k [] ss → AreAllValid ss
valid_from k [] h = tt
valid_from k (s ∷ ss) h =
    (record { lower = no_valid cell_order s.lower h.0.right.lower h.0.exact.lower; upper = no_valid order_from_above s.upper h.0.right.upper h.0.exact.upper }, valid_from (suc k) ss h.1)

pub none_valid : (ss : List ColumnStatistics) → AreAllComplete 0 [] ss → AreAllValid ss
none_valid ss h = valid_from 0 ss h

-- ---- values of the columns

lower_type : (t : TypeTree) (v : RawTree) (n : ℕ) (b c : Bound) → scalar_type b.value ≡ t → LowerAt t v n b c → scalar_type c.value ≡ t
lower_type (utf8_type k) (raw_text bs) n b c typed h = h.bound.bound.made.typed
lower_type (binary_type k) (raw_bytes bs) n b c typed h = h.bound.bound.made.typed
lower_type t v n b c typed h = let P : Bound → Type 0 = λ d. scalar_type d.value ≡ t in subst P (sym h) typed

-- the bound is there, and is of this type
abbrev IsTypedBound : TypeTree → Option Bound → Type 0
IsTypedBound t b = IfSome b (λ b. scalar_type b.value ≡ t)

upper_type : (t : TypeTree) (v : RawTree) (n : ℕ) (b : Bound) (c : Option Bound) → scalar_type b.value ≡ t → UpperAt t v n b c → IsTypedBound t c
upper_type (utf8_type k) (raw_text bs) n b None typed h = tt
upper_type (utf8_type k) (raw_text bs) n b (Some c) typed h = h.bound.bound.made.typed
upper_type (binary_type k) (raw_bytes bs) n b None typed h = tt
upper_type (binary_type k) (raw_bytes bs) n b (Some c) typed h = h.bound.bound.made.typed
upper_type t v n b c typed h = subst (IsTypedBound t) (sym h) typed

cut_lower : (t : TypeTree) (n : ℕ) (b c : Option Bound) → IfSome (option_map known_bound b) (λ b. b.value.typed ≡ t) → IsTruncatedLower n b c → IsTypedBound t c
cut_lower t n None c typed h = subst (IsTypedBound t) (sym h) tt
cut_lower t n (Some b) None typed h = absurd h
cut_lower t n (Some b) (Some c) typed h = lower_type (scalar_type b.value) (scalar_raw b.value) n b c refl h ∙ typed

cut_upper : (t : TypeTree) (n : ℕ) (b c : Option Bound) → IfSome (option_map known_bound b) (λ b. b.value.typed ≡ t) → IsTruncatedUpper n b c → IsTypedBound t c
cut_upper t n None c typed h = subst (IsTypedBound t) (sym h) tt
cut_upper t n (Some b) c typed h = subst (λ (u : TypeTree). IsTypedBound u c) typed (upper_type (scalar_type b.value) (scalar_raw b.value) n b c refl h)

bound_value : (c : ColumnType) (b : Option Bound) → IsTypedBound (column_type c) b → IsValidBound b → IsHeldBound (option_map known_bound b) → IsBoundOf (column_type c) (option_map known_bound b)
bound_value c None typed valid held = tt
bound_value c (Some b) typed valid held =
    record {
      typed = typed;
      ordered = no_variant c.kind c.nullability;
      value = scalar_raw b.value;
      is_value = record { valid = subst (λ (t : TypeTree). Valid t (scalar_raw b.value)) typed valid; held = held };
      is = refl;
    }

-- valid bounds of a column's type are its values, also where they are cut
pub cut_of_type : (c : ColumnType) (n : ℕ) (s cut : ColumnStatistics) → AreTruncated n s cut → HasBoundsOf (column_type c) (known s) → HasValidBounds cut → IsHeldKnown (known cut) → AreOf (column_type c) (known cut)
cut_of_type c n s cut truncated typed valid held = record {
  rows = held.rows;
  nulls = held.nulls;
  lower = bound_value c cut.lower (cut_lower (column_type c) n s.lower cut.lower typed.lower truncated.lower) valid.lower held.lower;
  upper = bound_value c cut.upper (cut_upper (column_type c) n s.upper cut.upper typed.upper truncated.upper) valid.upper held.upper;
}

-- the bounds of each column's statistics are valid and of its type
pub record AreReady (columns : List ColumnType) (ss : List ColumnStatistics) : Type 0 where
  pub typed : HaveTypes columns ss
  pub valid : AreAllValid ss

front_at : (ss : List ColumnStatistics) (s d : ColumnStatistics) (k : ℕ) → k < length ss → get_or (ss ++ s ∷ []) k d ≡ get_or ss k d
front_at [] s d k h = absurd (omega (arith, h))
front_at (x ∷ ss) s d zero h = refl
front_at (x ∷ ss) s d (suc k) h = front_at ss s d k (omega (arith, h))

last_at : (ss : List ColumnStatistics) (s d : ColumnStatistics) → get_or (ss ++ s ∷ []) (length ss) d ≡ s
last_at [] s d = refl
last_at (x ∷ ss) s d = last_at ss s d

valid_split : (ss : List ColumnStatistics) (s : ColumnStatistics) → AreAllValid (ss ++ s ∷ []) → AreAllValid ss × HasValidBounds s
valid_split [] s h = (tt, h.0)
valid_split (x ∷ ss) s h = let p = valid_split ss s h.1 in ((h.0, p.0), p.1)

front_ready : (columns : List ColumnType) (ss : List ColumnStatistics) (s : ColumnStatistics) → AreReady columns (ss ++ s ∷ []) → AreReady columns ss
front_ready columns ss s h = record {
  typed = λ k c d below within. subst (λ (x : ColumnStatistics). HasBoundsOf (column_type (get_or columns k c)) (known x)) (front_at ss s d k within) (h.typed k c d below (omega (arith, within, length-append ss (s ∷ []))));
  valid = (valid_split ss s h.valid).0;
}

last_typed : (columns : List ColumnType) (ss : List ColumnStatistics) (s : ColumnStatistics) (c : ColumnType) → length ss < length columns → AreReady columns (ss ++ s ∷ []) → HasBoundsOf (column_type (get_or columns (length ss) c)) (known s)
last_typed columns ss s c below h = subst (λ (x : ColumnStatistics). HasBoundsOf (column_type (get_or columns (length ss) c)) (known x)) (last_at ss s s) (h.typed (length ss) c s below (omega (arith, length-append ss (s ∷ []))))

-- ---- their encodings

complete_split : (k : ℕ) (rows : List (List Cell)) (ss : List ColumnStatistics) (s : ColumnStatistics) → AreAllComplete k rows (ss ++ s ∷ []) → AreAllComplete k rows ss × AreComplete (known s) (column (k + length ss) rows)
complete_split k rows [] s h = let e : k ≡ k + 0 = omega arith in (tt, subst (λ (j : ℕ). AreComplete (known s) (column j rows)) e h.0)
complete_split k rows (r ∷ ss) s h =
    let p = complete_split (suc k) rows ss s h.1 in
    let e : suc k + length ss ≡ k + suc (length ss) = omega arith in
    ((h.0, p.0), subst (λ (j : ℕ). AreComplete (known s) (column j rows)) e p.1)

-- the encodings of the first columns' statistics describe these, for any rows that the statistics are complete for, and fully,
-- if their bounds are values of the columns
abbrev pub AreEncodingsOf : List ColumnType → ℕ → List ColumnStatistics → List ℕ → Type 0
AreEncodingsOf columns n ss output = (rows : List (List Cell)) → AreRowsOf columns rows → AreAllComplete 0 rows ss → AreDescribed (take (length ss) columns) rows output × (AreReady columns ss → AreDescribedFully n (take (length ss) columns) rows output)

pub no_encodings : (columns : List ColumnType) (n : ℕ) (output : List ℕ) → output ≡ [] → AreEncodingsOf columns n [] output
no_encodings columns n output e rows are all = (none_described IsRightOf columns rows output e, λ ready. none_described (IsFullOf n) columns rows output e)

pub encoding_more : (columns : List ColumnType) (n : ℕ) (ss : List ColumnStatistics) (s : ColumnStatistics) (output new : List ℕ) → length ss < length columns → AreEncodingsOf columns n ss output → PushesCut n s output new → AreEncodingsOf columns n (ss ++ s ∷ []) new
encoding_more columns n ss s output new below before pushed rows are all =
    let p = complete_split 0 rows ss s all in
    let k = length ss in
    let at : 0 + k ≡ k = omega arith in
    let long : k + 1 ≡ length (ss ++ s ∷ []) = omega (arith, length-append ss (s ∷ [])) in
    let complete : AreComplete (known s) (column k rows) = subst (λ (j : ℕ). AreComplete (known s) (column j rows)) at p.1 in
    let cut : IsCutOf n (column k rows) pushed.cut = record { whole = s; complete = complete; cut = pushed.truncated } in
    let was = before rows are p.0 in
    subst (λ (j : ℕ). AreDescribed (take j columns) rows new × (AreReady columns (ss ++ s ∷ []) → AreDescribedFully n (take j columns) rows new)) long (
      described_more columns rows k n pushed.cut output new below are was.0 cut (pushed.right (column k rows) complete.right) pushed.held pushed.fits pushed.appended,
      λ ready. let valid = (valid_split ss s ready.valid).1 in
          let of_type = cut_of_type (get_or columns k some_column) n s pushed.cut pushed.truncated (last_typed columns ss s some_column below ready) (pushed.valid valid) pushed.held in
          fully_more columns rows k n pushed.cut output new below are (was.1 (front_ready columns ss s ready)) cut (pushed.right (column k rows) complete.right) pushed.held of_type pushed.fits pushed.appended,
    )

-- what is pushed, if it is
pub cut_pushed : {T E : Type 0} (r : Result T E) (n : ℕ) (s cut : ColumnStatistics) (old new : List ℕ) → AreTruncated n s cut → ((cells : List Cell) → AreRight (known s) cells → AreRight (known cut) cells)
    → (HasValidBounds s → HasValidBounds cut) → OnOk r (new ≡ old ++ bytes_encoding (encoding (known cut))) → OnOk r (IsHeldKnown (known cut)) → OnOk r (length (encoding (known cut)) < 2 ^ 64) → OnOk r (PushesCut n s old new)
cut_pushed (Ok x) n s cut old new truncated right valid appended held fits = record { cut = cut; truncated = truncated; right = right; valid = valid; held = held; fits = fits; appended = appended }
cut_pushed (Err e) n s cut old new truncated right valid appended held fits = tt

all_encodings : (columns : List ColumnType) (n : ℕ) (ss : List ColumnStatistics) (output : List ℕ) → length ss ≡ length columns → AreEncodingsOf columns n ss output → (rows : List (List Cell)) → AreRowsOf columns rows → AreAllComplete 0 rows ss
    → AreDescribed columns rows output × (AreReady columns ss → AreDescribedFully n columns rows output)
all_encodings columns n ss output same h rows are all =
    let p = h rows are all in
    (all_described IsRightOf columns rows (length ss) output (omega (arith, same)) p.0, λ ready. all_described (IsFullOf n) columns rows (length ss) output (omega (arith, same)) (p.1 ready))

-- no column is left
pub columns_done : (columns : List ColumnType) (n : ℕ) (ss rest given : List ColumnStatistics) (output : List ℕ) → rest ≡ [] → ss ++ rest ≡ given → length given ≡ length columns → AreEncodingsOf columns n ss output → (rows : List (List Cell)) → AreRowsOf columns rows → AreAllComplete 0 rows given
    → AreDescribed columns rows output × (AreReady columns given → AreDescribedFully n columns rows output)
columns_done columns n ss rest given output none parts same h =
    let all : ss ≡ given = sym (append-nil ss) ∙ ap (λ (l : List ColumnStatistics). ss ++ l) (sym none) ∙ parts in
    all_encodings columns n given output same (subst (λ (l : List ColumnStatistics). AreEncodingsOf columns n l output) all h)

pub nothing_left : (ss : List ColumnStatistics) → length ss ≡ 0 → ss ≡ []
nothing_left [] h = refl
nothing_left (s ∷ ss) h = absurd (omega arith)
