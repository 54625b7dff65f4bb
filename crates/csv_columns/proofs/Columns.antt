-- The fields of a record, and the guesses that have seen them.
use Rattle.std.proofs.Common.{◌≡◌, ◌⊎◌, inl, inr, ℕ, zero, suc, ◌+◌, ◌<◌, ◌≤◌, Bool, true, false, List, [], ◌∷◌, ◌++◌, Some, length, get_or, set, map, nat_lt, refl, sym, ap, subst, ◌∙◌, arith, append_assoc, append-nil, length-append, if◌then◌else◌}
use Rattle.std.proofs.lemmas.Bool.{cases_order, cond-false, cond-true, le-ltb, lt-ltb}
use Rattle.std.proofs.Math.Seq.{drop-append_seam, take-append_seam}
use Rattle.std.proofs.lemmas.List.{get_or-map, map-append}
use Rattle.std.proofs.lemmas.List.Concat.{flat_map-append}
use Rattle.std.proofs.lemmas.List.Elements.{All-drop, All-head, All-take}
use Rattle.std.proofs.lemmas.Option.{none-some, same_Some, slice_get-get_or}
use Rattle.std.specs.Global.{Global}
use Rattle.std.specs.Prelude.{All, Contains, Err, IfOk, IsUtf8, Ok, Result, slice_get, string_bytes, ◌≢◌}
use Rattle.std.specs.declared.string.String.{String}
use Rattle.std.specs.List.{onto_first}
use Rattle.csv_records.specs.Fields.{IsCut}
use Rattle.csv_records.specs.Records.{records_of}
use Rattle.csv_records.specs.Rows.{Field, field_rows}
use Rattle.csv_records.specs.declared.fields.Follows.{Follows}
use Rattle.csv_records.specs.declared.fields.Follows.TheVariants.{Another, Nothing, Row}
use Rattle.csv.specs.declared.parser.State.TheVariants.{StartField}
use Rattle.record_rows.specs.Cells.{HasCell, HasMeaning}
use Rattle.record_rows.specs.Readings.{Reading, is_null_field}
use Rattle.record_rows.specs.declared.schema.ColumnType.{ColumnType}
use Rattle.record_rows.specs.declared.schema.Kind.{Kind}
use Rattle.record_rows.specs.declared.schema.Kind.TheVariants.{Binary, Bytes, Integer, Logical, Utf8}
use Rattle.vortex_dtype.specs.declared.nullability.Nullability.{Nullability}
use Rattle.vortex_dtype.specs.declared.nullability.Nullability.TheVariants.{Nullable}
use Rattle.vortex_value.specs.Values.Content.{null}
use Rattle.csv_columns.specs.Guesses.{AreColumns, AreGuesses, HaveNumbers, IsColumn, See, TakeFields, column_names, column_words, field_lists, fields_left, fields_of, first_row, name_in, width_of, word_at, word_of, words_at}
use Rattle.csv_columns.specs.Kinds.{Sees, are_numbers_as_texts}
use Rattle.csv_columns.specs.Names.{texts}
use Rattle.csv_columns.specs.declared.column_words.NamedColumn.{NamedColumn}
use Rattle.csv_columns.specs.declared.kinds.Guess.{Guess}

-- ---- fields

first_onto : (f : Field) (rows : List (List Field)) → first_row (onto_first f rows) ≡ f ∷ first_row rows
first_onto f [] = refl
first_onto f (row ∷ rows) = refl

-- the field that is cut is the first of those that were left
pub cut_next : (d : ℕ) (bytes : List ℕ) (f : Field) (follows : Follows) → IsCut d StartField [] false bytes f follows → first_row (field_rows d bytes) ≡ f ∷ fields_left d follows
cut_next d bytes f (Another rest) cut = ap first_row cut.rows ∙ first_onto f (field_rows d rest.now)
cut_next d bytes f Nothing cut = ap first_row cut
cut_next d bytes f Row cut = ap first_row cut.is

pub field_cons : (d : ℕ) (f g : Field) (fs : List Field) → f ≡ g → f ∷ fs ≡ g ∷ fs
field_cons d f g fs e = ap (λ (x : Field). x ∷ fs) e

-- ---- the word of a column in a row

word_at_front : (reading : Reading) (k : ℕ) (read rest : List Field) → k < length read → word_at reading k (read ++ rest) ≡ word_at reading k read
word_at_front reading k [] rest h = absurd (omega arith)
word_at_front reading zero (f ∷ fs) rest h = refl
word_at_front reading (suc k) (f ∷ fs) rest h = word_at_front reading k fs rest (omega arith)

word_at_next : (reading : Reading) (read : List Field) (f : Field) (rest : List Field) → word_at reading (length read) (read ++ f ∷ rest) ≡ word_of reading f
word_at_next reading [] f rest = refl
word_at_next reading (g ∷ read) f rest = word_at_next reading read f rest

word_at_past : (reading : Reading) (k : ℕ) (read : List Field) → length read ≤ k → word_at reading k read ≡ []
word_at_past reading k [] h = refl
word_at_past reading zero (f ∷ fs) h = absurd (omega arith)
word_at_past reading (suc k) (f ∷ fs) h = word_at_past reading k fs (omega arith)

-- ---- guesses at their places

get_set_same : (gs : List Guess) (i : ℕ) (v g : Guess) → slice_get (set gs i v) i ≡ Some g → v ≡ g
get_set_same [] i v g h = absurd (none-some g h)
get_set_same (x ∷ xs) zero v g h = same_Some v g h
get_set_same (x ∷ xs) (suc i) v g h = get_set_same xs i v g h

get_set_other : (gs : List Guess) (i k : ℕ) (v : Guess) → ¬ (k ≡ i) → slice_get (set gs i v) k ≡ slice_get gs k
get_set_other [] i k v h = refl
get_set_other (x ∷ xs) zero zero v h = absurd (h refl)
get_set_other (x ∷ xs) zero (suc k) v h = refl
get_set_other (x ∷ xs) (suc i) zero v h = refl
get_set_other (x ∷ xs) (suc i) (suc k) v h = get_set_other xs i k v (λ e. h (ap suc e))

get_within : (gs : List Guess) (k : ℕ) (g : Guess) → slice_get gs k ≡ Some g → k < length gs
get_within [] k g h = absurd (none-some g h)
get_within (x ∷ xs) zero g h = omega arith
get_within (x ∷ xs) (suc k) g h = let i = get_within xs k g h in omega arith

get_push : {X : Type 0} → (xs : List X) (x found : X) (k : ℕ) → slice_get (xs ++ x ∷ []) k ≡ Some found → ((k < length xs) × (slice_get xs k ≡ Some found)) ⊎ ((k ≡ length xs) × (x ≡ found))
get_push [] x found zero h = inr (refl, same_Some x found h)
get_push [] x found (suc k) h = absurd (none-some found h)
get_push (y ∷ ys) x found zero h = inl (omega arith, h)
get_push (y ∷ ys) x found (suc k) h = elim (get_push ys x found k h) [
  | inl (l, e) ↦ inl (omega arith, e)
  | inr (l, e) ↦ inr (ap suc l, e)
]

same_words : (g : Guess) (a b : List (List ℕ)) → a ≡ b → Sees g a → Sees g b
same_words g a b e h = subst (Sees g) e h

set_length : (gs : List Guess) (i : ℕ) (v : Guess) → length (set gs i v) ≡ length gs
set_length [] i v = refl
set_length (x ∷ xs) zero v = refl
set_length (x ∷ xs) (suc i) v = ap suc (set_length xs i v)

-- ---- a record that is shown to guesses

-- so many of its fields were shown
pub record Shown (d : ℕ) (reading : Reading) (row : List Field) (place : ℕ) (old new : List Guess) (follows : Follows) : Type 0 where
  pub read : List Field
  pub count : length read ≡ place
  pub row_is : row ≡ read ++ fields_left d follows
  pub same : length new ≡ length old
  pub see : (words : ℕ → List (List ℕ)) → See words old → See (λ k. words k ++ word_at reading k read) new

pub none_shown : (d : ℕ) (reading : Reading) (row : List Field) (guesses : List Guess) (follows : Follows) → fields_left d follows ≡ row → Shown d reading row 0 guesses guesses follows
none_shown d reading row guesses follows e = record {
  read = [];
  count = refl;
  row_is = sym e;
  same = refl;
  see = λ words s k g h. same_words g (words k) (words k ++ []) (sym (append-nil (words k))) (s k g h);
}

-- the next field changes the guess at its place
pub one_shown : (d : ℕ) (reading : Reading) (row : List Field) (place : ℕ) (old new : List Guess) (follows next : Follows) (f : Field) (other seen : Guess)
    → Shown d reading row place old new follows → fields_left d follows ≡ f ∷ fields_left d next → place < length new
    → ((words : List (List ℕ)) → Sees (get_or new place other) words → Sees seen (words ++ word_of reading f))
    → Shown d reading row (place + 1) old (set new place seen) next
one_shown d reading row place old new follows next f other seen shown left inside after = record {
  read = shown.read ++ f ∷ [];
  count = length-append shown.read (f ∷ []) ∙ omega (arith, shown.count);
  row_is = shown.row_is ∙ ap (λ (x : List Field). shown.read ++ x) left ∙ sym (append_assoc shown.read (f ∷ []) (fields_left d next));
  same = set_length new place seen ∙ shown.same;
  see = λ words s k found h. elim (cases_order k place) [
    | inl e ↦
        let place_is : k ≡ length shown.read = e ∙ sym shown.count in
        let g = get_or new place other in
        let before : Sees g (words k ++ word_at reading k shown.read) = shown.see words s k g (subst (λ (x : ℕ). slice_get new x ≡ Some g) (sym e) (slice_get-get_or new place other inside)) in
        let is : seen ≡ found = get_set_same new place seen found (subst (λ (x : ℕ). slice_get (set new place seen) x ≡ Some found) e h) in
        let none : word_at reading k shown.read ≡ [] = word_at_past reading k shown.read (omega arith) in
        let word : word_at reading k (shown.read ++ f ∷ []) ≡ word_of reading f = ap (λ (x : ℕ). word_at reading x (shown.read ++ f ∷ [])) place_is ∙ word_at_next reading shown.read f [] in
        let joined : (words k ++ word_at reading k shown.read) ++ word_of reading f ≡ words k ++ word_at reading k (shown.read ++ f ∷ []) =
        ap (λ (x : List (List ℕ)). (words k ++ x) ++ word_of reading f) none ∙ ap (λ (x : List (List ℕ)). x ++ word_of reading f) (append-nil (words k)) ∙ ap (λ (x : List (List ℕ)). words k ++ x) (sym word) in
        subst (λ (x : Guess). Sees x (words k ++ word_at reading k (shown.read ++ f ∷ []))) is (same_words seen _ _ joined (after _ before))
    | inr e ↦
        let away : ¬ (k ≡ place) = apart k place e in
        let before : Sees found (words k ++ word_at reading k shown.read) = shown.see words s k found (sym (get_set_other new place k seen away) ∙ h) in
        same_words found _ _ (ap (λ (x : List (List ℕ)). words k ++ x) (unchanged k e)) before
  ];
}
  where
    apart : (a b : ℕ) → (a < b) ⊎ (b < a) → a ≡ b → ⊥
    apart a b e same = elim e [ inl l ↦ omega arith | inr l ↦ omega arith ]

    unchanged : (k : ℕ) → (k < place) ⊎ (place < k) → word_at reading k shown.read ≡ word_at reading k (shown.read ++ f ∷ [])
    unchanged k e = elim e [
      | inl l ↦ sym (word_at_front reading k shown.read (f ∷ []) (omega (arith, shown.count)))
      | inr l ↦ word_at_past reading k shown.read (omega (arith, shown.count)) ∙ sym (word_at_past reading k (shown.read ++ f ∷ []) (let n = length-append shown.read (f ∷ []) in omega (arith, shown.count)))
    ]

-- what contracts say of a whole record
pub record AllShown (d : ℕ) (reading : Reading) (row : List Field) (old new : List Guess) : Type 0 where
  pub same : length new ≡ length old
  pub see : (words : ℕ → List (List ℕ)) → See words old → See (λ k. words k ++ word_at reading k row) new

-- no field is left
pub all_read : (d : ℕ) (reading : Reading) (row : List Field) (place : ℕ) (old new : List Guess) (follows : Follows) → Shown d reading row place old new follows → fields_left d follows ≡ [] → AllShown d reading row old new
all_read d reading row place old new follows shown none =
    let whole : shown.read ≡ row = sym (append-nil shown.read) ∙ ap (λ (x : List Field). shown.read ++ x) (sym none) ∙ sym shown.row_is in
    record {
      same = shown.same;
      see = λ words s. subst (λ (x : List Field). See (λ k. words k ++ word_at reading k x) new) whole (shown.see words s);
    }

-- no guess is left
pub all_seen : (d : ℕ) (reading : Reading) (row : List Field) (place : ℕ) (old new : List Guess) (follows : Follows) → Shown d reading row place old new follows → length new ≤ place → AllShown d reading row old new
all_seen d reading row place old new follows shown end = record {
  same = shown.same;
  see = λ words s k g h.
      let inside : k < length shown.read = (let l = get_within new k g h in omega (arith, shown.count)) in
      let same : word_at reading k row ≡ word_at reading k shown.read = ap (word_at reading k) shown.row_is ∙ word_at_front reading k shown.read (fields_left d follows) inside in
      same_words g _ _ (ap (λ (x : List (List ℕ)). words k ++ x) (sym same)) (shown.see words s k g h);
}

-- ---- the first record with a field

pub record Begun (d : ℕ) (reading : Reading) (row : List Field) (guesses : List Guess) (follows : Follows) : Type 0 where
  pub read : List Field
  pub count : length guesses ≡ length read
  pub row_is : row ≡ read ++ fields_left d follows
  pub see : See (λ k. word_at reading k read) guesses

pub none_begun : (d : ℕ) (reading : Reading) (row : List Field) (follows : Follows) → fields_left d follows ≡ row → Begun d reading row [] follows
none_begun d reading row follows e = record { read = []; count = refl; row_is = sym e; see = λ k g h. absurd (none-some g h) }

pub one_begun : (d : ℕ) (reading : Reading) (row : List Field) (guesses : List Guess) (follows next : Follows) (f : Field) (g : Guess)
    → Begun d reading row guesses follows → fields_left d follows ≡ f ∷ fields_left d next → Sees g (word_of reading f)
    → Begun d reading row (guesses ++ g ∷ []) next
one_begun d reading row guesses follows next f g begun left sees = record {
  read = begun.read ++ f ∷ [];
  count = length-append guesses (g ∷ []) ∙ ap (λ (n : ℕ). n + 1) begun.count ∙ sym (length-append begun.read (f ∷ []));
  row_is = begun.row_is ∙ ap (λ (x : List Field). begun.read ++ x) left ∙ sym (append_assoc begun.read (f ∷ []) (fields_left d next));
  see = λ k found h. elim (get_push guesses g found k h) [
    | inl (l, e) ↦ same_words found _ _ (sym (word_at_front reading k begun.read (f ∷ []) (omega (arith, begun.count)))) (begun.see k found e)
    | inr (l, e) ↦
        let word : word_at reading k (begun.read ++ f ∷ []) ≡ word_of reading f = ap (λ (x : ℕ). word_at reading x (begun.read ++ f ∷ [])) (l ∙ begun.count) ∙ word_at_next reading begun.read f [] in
        subst (λ (x : Guess). Sees x (word_at reading k (begun.read ++ f ∷ []))) e (same_words g _ _ (sym word) sees)
  ];
}

pub record AllBegun (d : ℕ) (reading : Reading) (row : List Field) (guesses : List Guess) : Type 0 where
  pub count : length guesses ≡ length row
  pub see : See (λ k. word_at reading k row) guesses

pub all_begun : (d : ℕ) (reading : Reading) (row : List Field) (guesses : List Guess) (follows : Follows) → Begun d reading row guesses follows → fields_left d follows ≡ [] → AllBegun d reading row guesses
all_begun d reading row guesses follows begun none =
    let whole : begun.read ≡ row = sym (append-nil begun.read) ∙ ap (λ (x : List Field). begun.read ++ x) (sym none) ∙ sym begun.row_is in
    record {
      count = begun.count ∙ ap length whole;
      see = subst (λ (x : List Field). See (λ k. word_at reading k x) guesses) whole begun.see;
    }

-- ---- one record more

words_more : (reading : Reading) (k : ℕ) (rows : List (List Field)) (row : List Field) → words_at reading k (rows ++ row ∷ []) ≡ words_at reading k rows ++ word_at reading k row
words_more reading k rows row =
    flat_map-append (word_at reading k) rows (row ∷ []) ∙ ap (λ (x : List (List ℕ)). words_at reading k rows ++ x) (append-nil (word_at reading k row))

no_words : (reading : Reading) (k : ℕ) (rows : List (List Field)) → width_of rows ≡ 0 → words_at reading k rows ≡ []
no_words reading k [] e = refl
no_words reading k ([] ∷ rows) e = no_words reading k rows e
no_words reading k ((f ∷ fs) ∷ rows) e = absurd (omega arith)

first_width : (rows : List (List Field)) (row : List Field) → width_of rows ≡ 0 → width_of (rows ++ row ∷ []) ≡ length row
first_width [] [] e = refl
first_width [] (f ∷ fs) e = refl
first_width ([] ∷ rows) row e = first_width rows row e
first_width ((f ∷ fs) ∷ rows) row e = absurd (omega arith)

same_width : (rows : List (List Field)) (row : List Field) → 0 < width_of rows → width_of (rows ++ row ∷ []) ≡ width_of rows
same_width [] row h = absurd (omega arith)
same_width ([] ∷ rows) row h = same_width rows row h
same_width ((f ∷ fs) ∷ rows) row h = refl

pub first_guessed : (d : ℕ) (reading : Reading) (rows : List (List Field)) (row : List Field) (old new : List Guess) → AreGuesses reading rows old → length old ≡ 0
    → length new ≡ length row → See (λ k. word_at reading k row) new → AreGuesses reading (rows ++ row ∷ []) new
first_guessed d reading rows row old new are none count see =
    let zero_width : width_of rows ≡ 0 = sym are.count ∙ none in
    record {
      count = count ∙ sym (first_width rows row zero_width);
      see = λ k g h.
          same_words g _ _ (sym (words_more reading k rows row ∙ ap (λ (x : List (List ℕ)). x ++ word_at reading k row) (no_words reading k rows zero_width))) (see k g h);
    }

pub more_guessed : (d : ℕ) (reading : Reading) (rows : List (List Field)) (row : List Field) (old new : List Guess) → AreGuesses reading rows old → 0 < length old
    → length new ≡ length old → ((words : ℕ → List (List ℕ)) → See words old → See (λ k. words k ++ word_at reading k row) new) → AreGuesses reading (rows ++ row ∷ []) new
more_guessed d reading rows row old new are some count see = record {
  count = count ∙ are.count ∙ sym (same_width rows row (omega (arith, are.count)));
  see = λ k g h. same_words g _ _ (sym (words_more reading k rows row)) (see (λ j. words_at reading j rows) are.see k g h);
}

-- ---- all records

-- the guesses of the records before what is left
pub record Guessed (d : ℕ) (reading : Reading) (text rest : List ℕ) (guesses : List Guess) : Type 0 where
  pub rows : List (List Field)
  pub all : field_lists d text ≡ rows ++ field_lists d rest
  pub are : AreGuesses reading rows guesses

pub none_guessed : (d : ℕ) (reading : Reading) (text : List ℕ) → Guessed d reading text text []
none_guessed d reading text = record { rows = []; all = refl; are = record { count = refl; see = λ k g h. absurd (none-some g h) } }

pub one_guessed : (d : ℕ) (reading : Reading) (text rest line after : List ℕ) (old new : List Guess) → Guessed d reading text rest old → records_of d rest ≡ line ∷ records_of d after
    → ((rows : List (List Field)) → AreGuesses reading rows old → AreGuesses reading (rows ++ fields_of d line ∷ []) new) → Guessed d reading text after new
one_guessed d reading text rest line after old new so_far cut next = record {
  rows = so_far.rows ++ fields_of d line ∷ [];
  all = so_far.all ∙ ap (λ (x : List (List ℕ)). so_far.rows ++ map (fields_of d) x) cut ∙ sym (append_assoc so_far.rows (fields_of d line ∷ []) (field_lists d after));
  are = next so_far.rows so_far.are;
}

no_bytes : (xs : List ℕ) → length xs ≡ 0 → xs ≡ []
no_bytes [] e = refl
no_bytes (x ∷ xs) e = absurd (omega arith)

pub all_guessed : (d : ℕ) (reading : Reading) (text rest : List ℕ) (guesses : List Guess) → Guessed d reading text rest guesses → length rest ≡ 0 → AreGuesses reading (field_lists d text) guesses
all_guessed d reading text rest guesses so_far short =
    let end = no_bytes rest short in
    subst (λ (x : List (List Field)). AreGuesses reading x guesses) (sym (so_far.all ∙ ap (λ (x : List ℕ). so_far.rows ++ field_lists d x) end ∙ append-nil so_far.rows)) so_far.are

-- ---- names

pub record Named (d : ℕ) (row : List Field) (names : List (List ℕ)) (follows : Follows) : Type 0 where
  pub read : List Field
  pub row_is : row ≡ read ++ fields_left d follows
  pub are : names ≡ map name_in read

pub none_named : (d : ℕ) (row : List Field) (follows : Follows) → fields_left d follows ≡ row → Named d row [] follows
none_named d row follows e = record { read = []; row_is = sym e; are = refl }

pub one_named : (d : ℕ) (row : List Field) (names : List (List ℕ)) (name : List ℕ) (follows next : Follows) (f : Field)
    → Named d row names follows → fields_left d follows ≡ f ∷ fields_left d next → name ≡ name_in f → Named d row (names ++ name ∷ []) next
one_named d row names name follows next f so_far left is = record {
  read = so_far.read ++ f ∷ [];
  row_is = so_far.row_is ∙ ap (λ (x : List Field). so_far.read ++ x) left ∙ sym (append_assoc so_far.read (f ∷ []) (fields_left d next));
  are = ap (λ (x : List (List ℕ)). x ++ name ∷ []) so_far.are ∙ ap (λ (x : List ℕ). map name_in so_far.read ++ x ∷ []) is ∙ sym (map-append name_in so_far.read (f ∷ []));
}

pub all_named : (d : ℕ) (row : List Field) (names : List (List ℕ)) (follows : Follows) → Named d row names follows → fields_left d follows ≡ [] → names ≡ map name_in row
all_named d row names follows so_far none =
    so_far.are ∙ ap (map name_in) (sym (append-nil so_far.read) ∙ ap (λ (x : List Field). so_far.read ++ x) (sym none) ∙ sym so_far.row_is)

-- ---- columns

pub columns_more : (words : ℕ → List (List ℕ)) (columns : List NamedColumn) (named : NamedColumn) → AreColumns words columns → IsColumn (words (length columns)) named.column → AreColumns words (columns ++ named ∷ [])
columns_more words columns named are one = λ k found h. elim (get_push columns named found k h) [
  | inl (l, e) ↦ are k found e
  | inr (l, e) ↦ subst (λ (x : NamedColumn). IsColumn (words k) x.column) e (subst (λ (x : ℕ). IsColumn (words x) named.column) (sym l) one)
]

pub flags_more : (words : ℕ → List (List ℕ)) (flags : List Bool) (flag : Bool) → HaveNumbers words flags → flag ≡ are_numbers_as_texts (words (length flags)) → HaveNumbers words (flags ++ flag ∷ [])
flags_more words flags flag are one = λ k found h. elim (get_push flags flag found k h) [
  | inl (l, e) ↦ are k found e
  | inr (l, e) ↦ sym e ∙ one ∙ ap (λ (x : ℕ). are_numbers_as_texts (words x)) (sym l)
]

-- ---- what columns take

word_there : (reading : Reading) (k : ℕ) (row : List Field) (f : Field) → slice_get row k ≡ Some f → word_at reading k row ≡ word_of reading f
word_there reading k [] f h = absurd (none-some f h)
word_there reading zero (g ∷ row) f h = ap (word_of reading) (same_Some g f h)
word_there reading (suc k) (g ∷ row) f h = word_there reading k row f h

All-front : {X : Type 0} → (P : X → Type 0) (xs ys : List X) → All P (xs ++ ys) → All P xs
All-front P xs ys all = subst (All P) (take-append_seam xs ys) (All-take P (length xs) (xs ++ ys) all)

All-back : {X : Type 0} → (P : X → Type 0) (xs ys : List X) → All P (xs ++ ys) → All P ys
All-back P xs ys all = subst (All P) (drop-append_seam xs ys) (All-drop P (length xs) (xs ++ ys) all)

-- a word of a row stands among those of its column
words_hold : (P : List ℕ → Type 0) (reading : Reading) (k : ℕ) (rows : List (List Field)) (row : List Field) → All P (words_at reading k rows) → Contains rows row → All P (word_at reading k row)
words_hold P reading k [] row all there = absurd (omega (arith, there.1))
words_hold P reading k (r ∷ rows) row all (zero, inside, at) = subst (λ (x : List Field). All P (word_at reading k x)) at (All-front P (word_at reading k r) (words_at reading k rows) all)
words_hold P reading k (r ∷ rows) row all (suc i, inside, at) = words_hold P reading k rows row (All-back P (word_at reading k r) (words_at reading k rows) all) (i, omega arith, at)

-- a field that is null or has a meaning is a cell
is_taken : (reading : Reading) (column : ColumnType) (f : Field) (b : Bool) → is_null_field reading column.nullability f ≡ b → (b ≡ false → HasMeaning column.kind f.text) → HasCell reading column f
is_taken reading column f true is other = (null, rw is refl)
is_taken reading column f false is other = let m = other refl in (m.0, rw is m.1)

meaning_of : (kind : Kind) (f : Field) → (kind ≡ Utf8 → IsUtf8 f.text) → (kind ≢ Utf8 → HasMeaning kind f.text) → HasMeaning kind f.text
meaning_of (Integer p) f utf8 other = other (λ e. cc)
meaning_of Utf8 f utf8 other = (_, (utf8 refl, refl))
meaning_of Binary f utf8 other = other (λ e. cc)
meaning_of Bytes f utf8 other = other (λ e. cc)
meaning_of (Logical l) f utf8 other = other (λ e. cc)

pub take_fields : (reading : Reading) (rows : List (List Field)) (columns : List NamedColumn) → AreColumns (column_words reading rows) columns → TakeFields reading rows columns
take_fields reading rows columns are = λ k named row f at inside there here utf8.
    let column = are k named at in
    let kind = named.column.kind in
    let words : column_words reading rows k ≡ words_at reading k rows = cond-true (nat_lt k (width_of rows)) (words_at reading k rows) [] (lt-ltb k (width_of rows) inside) in
    let nulls : is_null_field reading named.column.nullability f ≡ is_null_field reading Nullable f = ap (λ (n : Nullability). is_null_field reading n f) column.nulls in
    is_taken reading named.column f (is_null_field reading Nullable f) nulls (λ e. meaning_of kind f utf8 (λ other.
    let word : word_at reading k row ≡ f.text ∷ [] = word_there reading k row f here ∙ cond-false (is_null_field reading Nullable f) [] (f.text ∷ []) e in
    let all : All (HasMeaning kind) (words_at reading k rows) = subst (All (HasMeaning kind)) words (column.fits other) in
    All-head (HasMeaning kind) f.text [] (subst (All (HasMeaning kind)) word (words_hold (HasMeaning kind) reading k rows row all there))))

-- ---- one guess

pub first_sees : Sees (record { is_seen = false; fits_signed = true; fits_unsigned = true; decimals = Some (record { whole = 1; places = 0 }); are_numbers = true; are_dates = true; timestamps = record { local = true; zoned = true; fine_local = true; fine_zoned = true } }) []
first_sees = record { some = refl; signed = refl; unsigned = refl; longest = refl; numbers = refl; dates = refl; moments = record { local = refl; zoned = refl; fine_local = refl; fine_zoned = refl } }

pub guess_there : (guesses : List Guess) (place : ℕ) (d : Guess) (words : ℕ → List (List ℕ)) → See words guesses → place < length guesses → Sees (get_or guesses place d) (if nat_lt place (length guesses) then words place else [])
guess_there guesses place d words see inside =
    same_words (get_or guesses place d) (words place) _ (sym (cond-true (nat_lt place (length guesses)) (words place) [] (lt-ltb place (length guesses) inside)))
    (see place (get_or guesses place d) (slice_get-get_or guesses place d inside))

pub guess_past : (guesses : List Guess) (place : ℕ) (g : Guess) (words : ℕ → List (List ℕ)) → length guesses ≤ place → Sees g [] → Sees g (if nat_lt place (length guesses) then words place else [])
guess_past guesses place g words past sees =
    same_words g [] _ (sym (cond-false (nat_lt place (length guesses)) (words place) [] (le-ltb place (length guesses) past))) sees

-- ---- one field

pub null_passed : (reading : Reading) (f : Field) (g : Guess) (words : List (List ℕ)) → is_null_field reading Nullable f ≡ true → Sees g words → Sees g (words ++ word_of reading f)
null_passed reading f g words null_there sees =
    let none : word_of reading f ≡ [] = cond-true (is_null_field reading Nullable f) [] (f.text ∷ []) null_there in
    same_words g words _ (sym (append-nil words) ∙ ap (λ (x : List (List ℕ)). words ++ x) (sym none)) sees

pub word_seen : (reading : Reading) (f : Field) (g : Guess) (words : List (List ℕ)) → is_null_field reading Nullable f ≡ false → Sees g (words ++ f.text ∷ []) → Sees g (words ++ word_of reading f)
word_seen reading f g words other sees =
    let one : word_of reading f ≡ f.text ∷ [] = cond-false (is_null_field reading Nullable f) [] (f.text ∷ []) other in
    same_words g (words ++ f.text ∷ []) _ (ap (λ (x : List (List ℕ)). words ++ x) (sym one)) sees

-- ---- all columns

pub ok_then : {T E : Type 0} → (r : Result T E) (P Q : T → Type 0) → IfOk r P → ((x : T) → P x → Q x) → IfOk r Q
ok_then (Ok x) P Q p f = f x p
ok_then (Err e) P Q p f = tt

pub columns_guessed : (reading : Reading) (rows : List (List Field)) (guesses lent : List Guess) (columns : List NamedColumn) → lent ≡ guesses → AreGuesses reading rows guesses
    → ((words : ℕ → List (List ℕ)) → See words lent → AreColumns (λ k. if nat_lt k (length lent) then words k else []) columns) → AreColumns (column_words reading rows) columns
columns_guessed reading rows guesses lent columns same are each =
    subst (λ (n : ℕ). AreColumns (λ k. if nat_lt k n then words_at reading k rows else []) columns) (ap length same ∙ are.count)
    (each (λ k. words_at reading k rows) (subst (See (λ k. words_at reading k rows)) (sym same) are.see))

pub numbers_guessed : (reading : Reading) (rows : List (List Field)) (guesses lent : List Guess) (flags : List Bool) → lent ≡ guesses → AreGuesses reading rows guesses
    → ((words : ℕ → List (List ℕ)) → See words lent → HaveNumbers (λ k. if nat_lt k (length lent) then words k else []) flags) → HaveNumbers (column_words reading rows) flags
numbers_guessed reading rows guesses lent flags same are each =
    subst (λ (n : ℕ). HaveNumbers (λ k. if nat_lt k n then words_at reading k rows else []) flags) (ap length same ∙ are.count)
    (each (λ k. words_at reading k rows) (subst (See (λ k. words_at reading k rows)) (sym same) are.see))

abbrev pub name_bytes : NamedColumn → List ℕ
name_bytes named = string_bytes named.name

-- the name at hand is that of the column at this place
pub column_at : (columns : List NamedColumn) (k : ℕ) (named : NamedColumn) (name : List ℕ) → k < length columns → named ≡ get_or columns k named → name ≡ string_bytes named.name → name ≡ get_or (column_names columns) k []
column_at columns k named name h is same = same ∙ ap name_bytes is ∙ sym (get_or-map name_bytes columns k named [] h)

pub column_named : (columns : List NamedColumn) (names : List (String Global)) (named : NamedColumn) (name : String Global) → column_names columns ≡ texts names → string_bytes named.name ≡ string_bytes name
    → column_names (columns ++ named ∷ []) ≡ texts (names ++ name ∷ [])
column_named columns names named name so_far same =
    map-append (λ (x : NamedColumn). string_bytes x.name) columns (named ∷ [])
    ∙ ap (λ (x : List (List ℕ)). x ++ string_bytes named.name ∷ []) so_far ∙ ap (λ (x : List ℕ). texts names ++ x ∷ []) same
    ∙ sym (map-append string_bytes names (name ∷ []))
