-- The fields of a record are walked.
use Rattle.std.proofs.Common.{◌≡◌, ◌≢◌, inl, inr, ◌≤◌, ◌<◌, ◌+◌, ℕ, suc, zero, List, [], ◌∷◌, ◌++◌, Bool, false, true, None, refl, sym, ap, ◌∙◌, subst, length, length-append, drop, append-nil, get_or, arith}
use Rattle.std.specs.List.{onto_first}
use Rattle.std.specs.Prelude.{MatchBool, nat_lt}
use Rattle.std.proofs.lemmas.Bool.Decides.{nat_tests}
use Rattle.csv.specs.declared.parser.State.TheVariants as st
use Rattle.csv_records.specs.Fields.{IsCut, IsFollowed}
use Rattle.csv_records.specs.Rows.{Field, field_rows}
use Rattle.csv_records.specs.declared.fields.Follows.{Follows}
use Rattle.csv_records.specs.declared.fields.Follows.TheVariants.{Another, Nothing, Row}
use Rattle.csv_records.proofs.RowCuts.{first_field}
use Rattle.vortex_dtype.specs.declared.nullability.Nullability.{Nullability}
use Rattle.vortex_dtype.specs.declared.nullability.Nullability.TheVariants.{NonNullable, Nullable}
use Rattle.vortex_value.specs.Values.Content.{null}
use Rattle.record_rows.specs.Readings.{Reading}
use Rattle.record_rows.specs.Rows.{HasFirstError, IsFirstError, IsUntaken, RefusesFields, RefusesRows, RefusesWord, Takes, TellsWord, fitted, missing, missing_before, no_field}
use Rattle.record_rows.specs.Walks.{AreFollowedBy, AreGiven, AreTaken, AreWhole, EndsAt, EndsFields, EndsWalk, HasOtherEnd, HasOtherRow, HasWalked, IsMissing, IsNext, ReadsNext, StartsAt, StartsField, field_of, with_front}
use Rattle.record_rows.specs.declared.errors.RowReadError.{RowReadError}
use Rattle.record_rows.specs.declared.errors.RowReadError.TheVariants as errors
use Rattle.record_rows.specs.declared.fields.ColumnField.{ColumnField}
use Rattle.record_rows.specs.declared.fields.FieldWalk.{FieldWalk}
use Rattle.record_rows.specs.declared.schema.ColumnType.{ColumnType}

front_push : (fs : List Field) (f : Field) (rows : List (List Field)) → with_front (fs ++ f ∷ []) rows ≡ with_front fs (onto_first f rows)
front_push [] f rows = refl
front_push (g ∷ fs) f rows = ap (onto_first g) (front_push fs f rows)

pub front_row : (fs row : List Field) (rows : List (List Field)) → with_front fs (row ∷ rows) ≡ (fs ++ row) ∷ rows
front_row [] row rows = refl
front_row (f ∷ fs) row rows = ap (onto_first f) (front_row fs row rows)

-- ---- records of another length

pub fitted_front : (l : Bool) (cs : List ColumnType) (fs more : List Field) → length fs ≤ length cs → fitted l cs (fs ++ more) ≡ fs ++ fitted l (drop (length fs) cs) more
fitted_front false cs fs more h = refl
fitted_front true cs [] more h = refl
fitted_front true [] (f ∷ fs) more h = absurd (omega (arith, h))
fitted_front true (c ∷ cs) (f ∷ fs) more h = ap (λ (row : List Field). f ∷ row) (fitted_front true cs fs more (omega (arith, h)))

fitted_all : (l : Bool) (cs : List ColumnType) (fs : List Field) → length fs ≤ length cs → fitted l cs fs ≡ fs ++ fitted l (drop (length fs) cs) []
fitted_all l cs fs h = ap (fitted l cs) (sym (append-nil fs)) ∙ fitted_front l cs fs [] h

-- behind the last column none stands
none_past : (cs : List ColumnType) (i : ℕ) (more : List Field) → length cs ≤ i → fitted true (drop i cs) more ≡ []
none_past [] zero [] h = refl
none_past [] zero (f ∷ more) h = refl
none_past [] (suc i) [] h = refl
none_past [] (suc i) (f ∷ more) h = refl
none_past (c ∷ cs) zero more h = absurd (omega (arith, h))
none_past (c ∷ cs) (suc i) more h = none_past cs i more (omega (arith, h))

none_missing : (l : Bool) (cs : List ColumnType) (i : ℕ) → length cs ≤ i → fitted l (drop i cs) [] ≡ []
none_missing false cs i h = refl
none_missing true cs i h = none_past cs i [] h

pub missing_there : (cs : List ColumnType) (i : ℕ) (d : ColumnType) → i < length cs → (get_or cs i d).nullability ≡ Nullable → missing (drop i cs) ≡ no_field ∷ missing (drop (suc i) cs)
missing_there [] i d below takes = absurd (omega (arith, below))
missing_there (c ∷ cs) zero d below takes = rw takes refl
missing_there (c ∷ cs) (suc i) d below takes = missing_there cs i d (omega (arith, below)) takes

pub missing_not : (cs : List ColumnType) (i : ℕ) (d : ColumnType) → i < length cs → (get_or cs i d).nullability ≡ NonNullable → missing (drop i cs) ≡ []
missing_not [] i d below takes = absurd (omega (arith, below))
missing_not (c ∷ cs) zero d below takes = rw takes refl
missing_not (c ∷ cs) (suc i) d below takes = missing_not cs i d (omega (arith, below)) takes

pub strict_none : (l : Bool) (cs : List ColumnType) → l ≡ false → fitted l cs [] ≡ []
strict_none false cs e = refl
strict_none true cs e = absurd cc

pub fitted_missing : (l : Bool) (cs : List ColumnType) → missing cs ≡ [] → fitted l cs [] ≡ []
fitted_missing false cs e = refl
fitted_missing true cs e = e

-- whether the next column takes a null in place of a field that is missing
pub misses : (walk : FieldWalk) (d : ColumnType) → walk.place < length walk.columns.now → (get_or walk.columns.now walk.place d).nullability ≡ Nullable → (b : Bool) → walk.is_lenient ≡ b → MatchBool b (IsMissing walk []) (fitted b (drop walk.place walk.columns.now) [] ≡ [])
misses walk d below takes true e =
    let one : suc walk.place ≡ walk.place + 1 = omega arith in
    record {
      lenient = e;
      rest_is = refl;
      next = subst (λ (n : ℕ). missing (drop walk.place walk.columns.now) ≡ no_field ∷ missing (drop n walk.columns.now)) one (missing_there walk.columns.now walk.place d below takes);
    }
misses walk d below takes false e = refl

as_missing : (l : Bool) (cs : List ColumnType) → l ≡ true → fitted l cs [] ≡ missing cs
as_missing true cs e = refl
as_missing false cs e = absurd cc

append_one : (fs : List Field) (f : Field) (gs : List Field) → (fs ++ f ∷ []) ++ gs ≡ fs ++ f ∷ gs
append_one [] f gs = refl
append_one (g ∷ fs) f gs = ap (λ (l : List Field). g ∷ l) (append_one fs f gs)

-- ---- the next field

follow_on : (d : ℕ) (bytes rest : List ℕ) (fields : List Field) (f : Field) (o : Follows) → field_rows d bytes ≡ with_front fields (field_rows d rest) → IsCut d st.StartField [] false rest f o → AreFollowedBy d bytes (fields ++ f ∷ []) o
follow_on d bytes rest fields f (Another next) h cut = h ∙ ap (with_front fields) cut.rows ∙ sym (front_push fields f (field_rows d next.now))
follow_on d bytes rest fields f Nothing h cut = h ∙ ap (with_front fields) cut ∙ front_row fields (f ∷ []) []
follow_on d bytes rest fields f Row h cut = (cut.next, cut.others, h ∙ ap (with_front fields) cut.is ∙ front_row fields (f ∷ []) (cut.next ∷ cut.others))

-- fields that were read are given
given_on : (l : Bool) (columns : List ColumnType) (read fields : List Field) (f : Field) (o : Follows) → fields ≡ read → length (fields ++ f ∷ []) ≤ length columns → AreGiven l columns (read ++ f ∷ []) o (fields ++ f ∷ [])
given_on l columns read fields f (Another next) e within = ap (λ (fs : List Field). fs ++ f ∷ []) e
given_on l columns read fields f Nothing e within = ap (λ (fs : List Field). fitted l columns (fs ++ f ∷ [])) (sym e) ∙ fitted_all l columns (fields ++ f ∷ []) within
given_on l columns read fields f Row e within = ap (λ (fs : List Field). fs ++ f ∷ []) e

-- a cut of no byte is one of a field without a byte, and nothing follows
empty_cut : (d : ℕ) (f : Field) (o : Follows) → IsCut d st.StartField [] false [] f o → (o ≡ Nothing) × (f ≡ no_field)
empty_cut d f (Another next) h = absurd (omega (arith, h.shorter))
empty_cut d f Nothing h = let same : no_field ≡ f = cc in (refl, sym same)
empty_cut d f Row h = absurd (two_rows f h.next h.others h.is)
  where
    two_rows : (f : Field) (next : List Field) (others : List (List Field)) → (no_field ∷ []) ∷ [] ≡ (f ∷ []) ∷ next ∷ others → ⊥
    two_rows f next others e = cc

-- what is read and given after the next field
record Goes (d : ℕ) (l : Bool) (columns : List ColumnType) (bytes : List ℕ) (fields : List Field) (f : Field) (o : Follows) : Type 0 where
  read : List Field
  few : length read ≤ length (fields ++ f ∷ [])
  follow : AreFollowedBy d bytes read o
  given : AreGiven l columns read o (fields ++ f ∷ [])

goes : (d : ℕ) (l : Bool) (columns : List ColumnType) (bytes rest : List ℕ) (walk : FieldWalk) (fields read : List Field) (f : Field) (old new : Follows) → walk.is_lenient ≡ l → walk.columns.now ≡ columns → walk.place ≡ length fields → length (fields ++ f ∷ []) ≤ length columns → length read ≤ length fields
    → AreFollowedBy d bytes read old → AreGiven l columns read old fields → StartsAt old walk rest → IsCut d st.StartField [] false rest f new → Goes d l columns bytes fields f new
goes d l columns bytes rest walk fields read f (Another next) new lenient cs place within few follow given starts cut = record {
  read = read ++ f ∷ [];
  few = omega (arith, length-append read (f ∷ []), length-append fields (f ∷ []), few);
  follow = follow_on d bytes rest read f new (follow ∙ ap (λ (xs : List ℕ). with_front read (field_rows d xs)) starts) cut;
  given = given_on l columns read fields f new given within;
}
goes d l columns bytes rest walk fields read f Nothing new lenient cs place within few follow given starts cut =
    let none = empty_cut d f new (subst (λ (xs : List ℕ). IsCut d st.StartField [] false xs f new) starts.rest_is cut) in
    let asked : l ≡ true = sym lenient ∙ starts.lenient in
    let i = length fields in
    let next : missing (drop i columns) ≡ no_field ∷ missing (drop (i + 1) columns) =
    subst (λ (n : ℕ). missing (drop n columns) ≡ no_field ∷ missing (drop (n + 1) columns)) place (subst (λ (k : List ColumnType). missing (drop walk.place k) ≡ no_field ∷ missing (drop (walk.place + 1) k)) cs starts.next) in
    let more : fitted l (drop i columns) [] ≡ no_field ∷ fitted l (drop (i + 1) columns) [] =
    as_missing l (drop i columns) asked ∙ next ∙ ap (λ (fs : List Field). no_field ∷ fs) (sym (as_missing l (drop (i + 1) columns) asked)) in
    let long : i + 1 ≡ length (fields ++ no_field ∷ []) = sym (length-append fields (no_field ∷ [])) in
    let all : fitted l columns read ≡ (fields ++ no_field ∷ []) ++ fitted l (drop (length (fields ++ no_field ∷ [])) columns) [] =
    given ∙ ap (λ (fs : List Field). fields ++ fs) more ∙ sym (append_one fields no_field (fitted l (drop (i + 1) columns) [])) ∙ ap (λ (n : ℕ). (fields ++ no_field ∷ []) ++ fitted l (drop n columns) []) long in
    record {
      read = read;
      few = omega (arith, few, length-append fields (f ∷ []));
      follow = subst (AreFollowedBy d bytes read) (sym none.0) follow;
      given = subst (λ (o : Follows). AreGiven l columns read o (fields ++ f ∷ [])) (sym none.0) (subst (λ (g : Field). AreGiven l columns read Nothing (fields ++ g ∷ [])) (sym none.1) all);
    }
goes d l columns bytes rest walk fields read f Row new lenient cs place within few follow given starts cut = absurd starts

-- a field that was cut is the next one
pub is_next : (d : ℕ) (r : Reading) (columns : List ColumnType) (bytes rest : List ℕ) (old new : FieldWalk) (fields : List Field) (next : ColumnField) (f : Field) → HasWalked d r columns bytes old fields → StartsField old rest
    → IsCut old.delimiter.byte st.StartField [] false rest f new.follows → new.delimiter ≡ old.delimiter → new.is_lenient ≡ old.is_lenient → new.is_longer ≡ old.is_longer → new.columns ≡ old.columns → new.place ≡ old.place + 1 → next.place ≡ old.place → next.column ≡ get_or old.columns.now old.place next.column → field_of next ≡ f
    → IsNext d r columns bytes new fields next
is_next d r columns bytes rest old new fields next f h starts cut same_delimiter same_lenient same_longer same_columns moved place column field =
    let read : IsCut d st.StartField [] false rest (field_of next) new.follows = subst (λ (g : Field). IsCut d st.StartField [] false rest g new.follows) (sym field) (subst (λ (b : ℕ). IsCut b st.StartField [] false rest f new.follows) h.delimiter_is cut) in
    let long : length old.columns.now ≡ length columns = ap length h.columns_are in
    let within : length (fields ++ field_of next ∷ []) ≤ length columns = omega (arith, length-append fields (field_of next ∷ []), h.place, starts.0, long) in
    let on = goes d r.is_lenient columns bytes rest old fields h.read (field_of next) old.follows new.follows h.lenient_is h.columns_are h.place within h.few h.follow h.given starts.1 read in
    record {
      place = place ∙ h.place;
      within = omega (arith, place, starts.0, long);
      column = column ∙ ap (λ (cs : List ColumnType). get_or cs old.place next.column) h.columns_are ∙ ap (λ (n : ℕ). get_or columns n next.column) (sym place);
      walked = record {
        delimiter_is = ap (λ b. b.byte) same_delimiter ∙ h.delimiter_is;
        lenient_is = same_lenient ∙ h.lenient_is;
        columns_are = ap (λ c. c.now) same_columns ∙ h.columns_are;
        place = omega (arith, moved, h.place, length-append fields (field_of next ∷ []));
        within = omega (arith, moved, starts.0, long);
        shorter = same_longer ∙ h.shorter;
        read = on.read;
        few = on.few;
        follow = on.follow;
        given = on.given;
      };
    }

not_more : (n m : ℕ) → n ≤ m → false ≡ nat_lt m n
not_more n m h = grind (arith, nat_tests)

is_more : (n m : ℕ) → m < n → true ≡ nat_lt m n
is_more n m h = grind (arith, nat_tests)

one_row : (d : ℕ) (xs : List ℕ) → length (field_rows d xs) ≡ 1 → (f : Field) × (row : List Field) × (field_rows d xs ≡ (f ∷ row) ∷ [])
one_row d xs one = let some = first_field d xs in (some.0, some.1, some.3 ∙ ap (λ (rows : List (List Field)). (some.0 ∷ some.1) ∷ rows) (no_others some.2 (ap length (sym some.3) ∙ one)))
  where
    no_others : (others : List (List Field)) → suc (length others) ≡ 1 → others ≡ []
    no_others [] e = refl
    no_others (row ∷ others) e = absurd (omega (arith, e))

-- each column has its field
whole_at : (d : ℕ) (r : Reading) (columns : List ColumnType) (bytes : List ℕ) (walk new : FieldWalk) (fields read : List Field) (o : Follows) → walk.delimiter.byte ≡ d → walk.is_lenient ≡ r.is_lenient → walk.is_longer ≡ false → length read ≤ length fields → length fields ≤ length columns → length columns ≤ length fields
    → AreFollowedBy d bytes read o → AreGiven r.is_lenient columns read o fields → EndsAt o walk new → AreWhole d r columns bytes new fields
whole_at d r columns bytes walk new fields read (Another rest) delimiter lenient shorter few within past follow given ends =
    let asked : r.is_lenient ≡ true = sym lenient ∙ ends.lenient in
    let one = one_row d rest.now (subst (λ (b : ℕ). length (field_rows b rest.now) ≡ 1) delimiter ends.only) in
    let row = one.0 ∷ one.1 in
    let is : field_rows d bytes ≡ (fields ++ row) ∷ [] = follow ∙ ap (with_front read) one.2 ∙ front_row read row [] ∙ ap (λ (fs : List Field). (fs ++ row) ∷ []) (sym given) in
    let none : fitted r.is_lenient (drop (length fields) columns) row ≡ [] = ap (λ (b : Bool). fitted b (drop (length fields) columns) row) asked ∙ none_past columns (length fields) row past in
    let more : length columns < length (fields ++ row) = omega (arith, length-append fields row, within) in
    record {
      row = fields ++ row;
      is = is;
      fields_are = fitted_front r.is_lenient columns fields row within ∙ ap (λ (fs : List Field). fields ++ fs) none ∙ append-nil fields;
      count = omega (arith, within, past);
      longer = ap (λ (w : FieldWalk). w.is_longer) ends.is ∙ is_more (length (fields ++ row)) (length columns) more;
    }
whole_at d r columns bytes walk new fields read Nothing delimiter lenient shorter few within past follow given ends = record {
  row = read;
  is = follow;
  fields_are = given ∙ ap (λ (fs : List Field). fields ++ fs) (none_missing r.is_lenient columns (length fields) past) ∙ append-nil fields;
  count = omega (arith, within, past);
  longer = ap (λ (w : FieldWalk). w.is_longer) ends ∙ shorter ∙ not_more (length read) (length columns) (omega (arith, few, within));
}
whole_at d r columns bytes walk new fields read Row delimiter lenient shorter few within past follow given ends = absurd ends

pub is_last : (d : ℕ) (r : Reading) (columns : List ColumnType) (bytes : List ℕ) (walk new : FieldWalk) (fields : List Field) → HasWalked d r columns bytes walk fields → EndsFields walk new → ReadsNext d r columns bytes new fields None
is_last d r columns bytes walk new fields h ends =
    let long : length walk.columns.now ≡ length columns = ap length h.columns_are in
    whole_at d r columns bytes walk new fields h.read walk.follows h.delimiter_is h.lenient_is h.shorter h.few (omega (arith, h.place, h.within)) (omega (arith, ends.0, long, h.place)) h.follow h.given ends.1

-- ---- the first fault

-- fields that were taken are passed over
first_after : (l : Reading) (k j : ℕ) (cs : List ColumnType) (done more : List Field) (others : List (List Field)) (fault : RowReadError) → j ≡ k + length done → AreTaken l cs done → IsFirstError l j (drop (length done) cs) more others fault → IsFirstError l k cs (done ++ more) others fault
first_after l k j cs [] more others fault e taken h =
    let same : j ≡ k = omega (arith, e) in
    subst (λ (n : ℕ). IsFirstError l n cs more others fault) same h
first_after l k j [] (f ∷ done) more others fault e taken h = absurd taken
first_after l k j (c ∷ cs) (f ∷ done) more others fault e taken h = inr (taken.0, first_after l (suc k) j cs done more others fault (omega (arith, e)) taken.1 h)

-- no first fault is want of memory
never_memory : (l : Reading) (k : ℕ) (cs : List ColumnType) (fs : List Field) (others : List (List Field)) → IsFirstError l k cs fs others errors.Memory → ⊥
never_memory l k [] [] [] h = h
never_memory l k [] [] (next ∷ others) h = absurd cc
never_memory l k [] (f ∷ fs) others h = absurd cc
never_memory l k (c ∷ cs) [] [] h = absurd cc
never_memory l k (c ∷ cs) [] (next ∷ others) h = absurd cc
never_memory l k (c ∷ cs) (f ∷ fs) others h = elim h [ inl told ↦ told.0 | inr more ↦ never_memory l (suc k) cs fs others more.1 ]

no_first : (l : Reading) (columns : List ColumnType) (rows : List (List Field)) → HasFirstError l columns rows errors.Memory → ⊥
no_first l columns [] h = h
no_first l columns (row ∷ others) h = never_memory l 0 columns (fitted l.is_lenient columns row) others h

-- memory is asked for a field in its column
some_row : (d : ℕ) (bytes : List ℕ) → field_rows d bytes ≢ []
some_row d bytes = λ (none : field_rows d bytes ≡ []). let some = first_field d bytes in absurd (cc (some.3))

pub memory_asked : (d : ℕ) (l : Reading) (columns : List ColumnType) (bytes : List ℕ) (place : ℕ) → place < length columns → RefusesFields d l columns bytes errors.Memory
memory_asked d l columns bytes place within = (inl (λ (none : columns ≡ []). absurd (omega (arith, within, ap length none))), some_row d bytes)

fault_told : (l : Reading) (columns : List ColumnType) (rows : List (List Field)) (fault : RowReadError) → HasFirstError l columns rows fault → RefusesRows l columns rows fault
fault_told l columns rows errors.Memory h = absurd (no_first l columns rows h)
fault_told l columns rows (errors.Word at found) h = h
fault_told l columns rows errors.FieldCount h = h
fault_told l columns rows errors.LoneReturn h = h

first_told : (l : Reading) (columns : List ColumnType) (fields more row : List Field) (rows others : List (List Field)) (fault : RowReadError) → rows ≡ row ∷ others → fitted l.is_lenient columns row ≡ fields ++ more → AreTaken l columns fields → IsFirstError l (length fields) (drop (length fields) columns) more others fault → RefusesRows l columns rows fault
first_told l columns fields more row rows others fault is fits taken h =
    fault_told l columns rows fault (subst (λ (r : List (List Field)). HasFirstError l columns r fault) (sym is) (subst (λ (fs : List Field). IsFirstError l 0 columns fs others fault) (sym fits) (first_after l 0 (length fields) columns fields more others fault (omega arith) taken h)))

-- a field too many, a field too few, and another row
long_fault : (l : Reading) (n : ℕ) (cs : List ColumnType) (i : ℕ) (f : Field) (fs : List Field) (others : List (List Field)) → length cs ≤ i → IsFirstError l n (drop i cs) (f ∷ fs) others errors.FieldCount
long_fault l n [] zero f fs others past = refl
long_fault l n [] (suc i) f fs others past = refl
long_fault l n (c ∷ cs) zero f fs others past = absurd (omega (arith, past))
long_fault l n (c ∷ cs) (suc i) f fs others past = long_fault l n cs i f fs others (omega (arith, past))

short_fault : (l : Reading) (n : ℕ) (cs : List ColumnType) (i : ℕ) → i < length cs → IsFirstError l n (drop i cs) [] [] errors.FieldCount
short_fault l n [] i below = absurd (omega (arith, below))
short_fault l n (c ∷ cs) zero below = refl
short_fault l n (c ∷ cs) (suc i) below = short_fault l n cs i (omega (arith, below))

bare_fault : (l : Reading) (n : ℕ) (cs : List ColumnType) (next : List Field) (others : List (List Field)) → IsFirstError l n cs [] (next ∷ others) errors.LoneReturn
bare_fault l n [] next others = refl
bare_fault l n (c ∷ cs) next others = refl

-- a missing field is taken as a null
takes_none : (l : Reading) (c : ColumnType) → c.nullability ≡ Nullable → Takes l c no_field
takes_none l c takes = (false, (null, rw takes refl))

missing_fault : (l : Reading) (n : ℕ) (cs : List ColumnType) (next : List Field) (others : List (List Field)) → IsFirstError l n cs (missing cs) (next ∷ others) errors.LoneReturn
missing_fault l n [] next others = refl
missing_fault l n (c ∷ cs) next others = by_column (missing_fault l (suc n) cs next others) c.nullability refl
  where
    by_column : IsFirstError l (suc n) cs (missing cs) (next ∷ others) errors.LoneReturn → (m : Nullability) → c.nullability ≡ m → IsFirstError l n (c ∷ cs) (missing_before m (missing cs)) (next ∷ others) errors.LoneReturn
    by_column rest Nullable e = inr (takes_none l c e, rest)
    by_column rest NonNullable e = refl

return_fault : (l : Reading) (n : ℕ) (cs : List ColumnType) (next : List Field) (others : List (List Field)) (b : Bool) → IsFirstError l n cs (fitted b cs []) (next ∷ others) errors.LoneReturn
return_fault l n cs next others false = bare_fault l n cs next others
return_fault l n cs next others true = missing_fault l n cs next others

word_fault : (l : Reading) (n : ℕ) (cs : List ColumnType) (i : ℕ) (d : ColumnType) (f : Field) (more : List Field) (others : List (List Field)) (fault : RowReadError) → i < length cs → TellsWord n f.text fault → IsUntaken l (get_or cs i d) f → IsFirstError l n (drop i cs) (f ∷ more) others fault
word_fault l n [] i d f more others fault below told untaken = absurd (omega (arith, below))
word_fault l n (c ∷ cs) zero d f more others fault below told untaken = inl (told, untaken)
word_fault l n (c ∷ cs) (suc i) d f more others fault below told untaken = word_fault l n cs i d f more others fault (omega (arith, below)) told untaken

-- ---- no next field

other_end : (d : ℕ) (l : Reading) (columns : List ColumnType) (bytes : List ℕ) (fields read : List Field) (o : Follows) → length fields ≤ length columns → AreFollowedBy d bytes read o → AreGiven l.is_lenient columns read o fields → AreTaken l columns fields → HasOtherEnd l.is_lenient columns (length fields) o → RefusesFields d l columns bytes errors.FieldCount
other_end d l columns bytes fields read (Another rest) within h given taken end =
    let some = first_field d rest.now in
    let row = some.0 ∷ some.1 in
    let is : field_rows d bytes ≡ (fields ++ row) ∷ some.2 = h ∙ ap (with_front read) some.3 ∙ front_row read row some.2 ∙ ap (λ (fs : List Field). (fs ++ row) ∷ some.2) (sym given) in
    let whole : fitted l.is_lenient columns (fields ++ row) ≡ fields ++ row = ap (λ (b : Bool). fitted b columns (fields ++ row)) end.1 in
    first_told l columns fields row (fields ++ row) (field_rows d bytes) some.2 errors.FieldCount is whole taken (long_fault l (length fields) columns (length fields) some.0 some.1 some.2 end.0)
other_end d l columns bytes fields read Nothing within h given taken end =
    first_told l columns fields [] read (field_rows d bytes) [] errors.FieldCount h (given ∙ ap (λ (fs : List Field). fields ++ fs) end.1) taken (short_fault l (length fields) columns (length fields) end.0)
other_end d l columns bytes fields read Row within h given taken end = absurd end

other_row : (d : ℕ) (l : Reading) (columns : List ColumnType) (bytes : List ℕ) (walk : FieldWalk) (fields read : List Field) (o : Follows) → walk.delimiter.byte ≡ d → walk.is_lenient ≡ l.is_lenient → length walk.columns.now ≡ length columns → walk.place ≡ length fields → length fields ≤ length columns
    → AreFollowedBy d bytes read o → AreGiven l.is_lenient columns read o fields → AreTaken l columns fields → HasOtherRow o walk → RefusesFields d l columns bytes errors.LoneReturn
other_row d l columns bytes walk fields read (Another rest) delimiter lenient long place within h given taken end =
    let some = first_field d rest.now in
    let row = some.0 ∷ some.1 in
    let many : 1 < suc (length some.2) = subst (λ (n : ℕ). 1 < n) (ap length some.3) (subst (λ (b : ℕ). 1 < length (field_rows b rest.now)) delimiter end.more) in
    let asked : l.is_lenient ≡ true = sym lenient ∙ end.lenient in
    let past : length columns ≤ length fields = omega (arith, end.past, long, place) in
    let is : field_rows d bytes ≡ (fields ++ row) ∷ some.2 = h ∙ ap (with_front read) some.3 ∙ front_row read row some.2 ∙ ap (λ (fs : List Field). (fs ++ row) ∷ some.2) (sym given) in
    let none : fitted l.is_lenient (drop (length fields) columns) row ≡ [] = ap (λ (b : Bool). fitted b (drop (length fields) columns) row) asked ∙ none_past columns (length fields) row past in
    first_told l columns fields [] (fields ++ row) (field_rows d bytes) some.2 errors.LoneReturn is (fitted_front l.is_lenient columns fields row within ∙ ap (λ (fs : List Field). fields ++ fs) none) taken (behind some.2 many)
  where
    behind : (others : List (List Field)) → 1 < suc (length others) → IsFirstError l (length fields) (drop (length fields) columns) [] others errors.LoneReturn
    behind [] many = absurd (omega (arith, many))
    behind (next ∷ others) many = bare_fault l (length fields) (drop (length fields) columns) next others
other_row d l columns bytes walk fields read Nothing delimiter lenient long place within h given taken end = absurd end
other_row d l columns bytes walk fields read Row delimiter lenient long place within h given taken end =
    let i = length fields in
    let is : field_rows d bytes ≡ fields ∷ h.0 ∷ h.1 = h.2 ∙ ap (λ (fs : List Field). fs ∷ h.0 ∷ h.1) (sym given) in
    first_told l columns fields (fitted l.is_lenient (drop i columns) []) fields (field_rows d bytes) (h.0 ∷ h.1) errors.LoneReturn is (fitted_all l.is_lenient columns fields within) taken (return_fault l i (drop i columns) h.0 h.1 l.is_lenient)

-- why a walk does not go on is why there is no row
pub walk_ends : (d : ℕ) (l : Reading) (columns : List ColumnType) (bytes : List ℕ) (walk : FieldWalk) (fields : List Field) (fault : RowReadError) → HasWalked d l columns bytes walk fields → AreTaken l columns fields → EndsWalk walk fault → RefusesFields d l columns bytes fault
walk_ends d l columns bytes walk fields errors.Memory h taken end = (inr (sym h.lenient_is ∙ end), some_row d bytes)
walk_ends d l columns bytes walk fields (errors.Word column word) h taken end = absurd end
walk_ends d l columns bytes walk fields errors.FieldCount h taken end =
    let ended : HasOtherEnd l.is_lenient walk.columns.now walk.place walk.follows = subst (λ (b : Bool). HasOtherEnd b walk.columns.now walk.place walk.follows) h.lenient_is end in
    let at : HasOtherEnd l.is_lenient columns (length fields) walk.follows = subst (λ (n : ℕ). HasOtherEnd l.is_lenient columns n walk.follows) h.place (subst (λ (cs : List ColumnType). HasOtherEnd l.is_lenient cs walk.place walk.follows) h.columns_are ended) in
    other_end d l columns bytes fields h.read walk.follows (omega (arith, h.place, h.within)) h.follow h.given taken at
walk_ends d l columns bytes walk fields errors.LoneReturn h taken end =
    other_row d l columns bytes walk fields h.read walk.follows h.delimiter_is h.lenient_is (ap length h.columns_are) h.place (omega (arith, h.place, h.within)) h.follow h.given taken end

-- ---- a field that its column does not take

-- the row of which the field was given
record Stands (d : ℕ) (l : Bool) (columns : List ColumnType) (bytes : List ℕ) (fields : List Field) : Type 0 where
  row : List Field
  more : List Field
  others : List (List Field)
  is : field_rows d bytes ≡ row ∷ others
  fits : fitted l columns row ≡ fields ++ more

field_stands : (d : ℕ) (l : Bool) (columns : List ColumnType) (bytes : List ℕ) (fields read : List Field) (o : Follows) → length fields ≤ length columns → AreFollowedBy d bytes read o → AreGiven l columns read o fields → Stands d l columns bytes fields
field_stands d l columns bytes fields read (Another rest) within h given =
    let some = first_field d rest.now in
    let row = some.0 ∷ some.1 in
    record {
      row = fields ++ row;
      more = fitted l (drop (length fields) columns) row;
      others = some.2;
      is = h ∙ ap (with_front read) some.3 ∙ front_row read row some.2 ∙ ap (λ (fs : List Field). (fs ++ row) ∷ some.2) (sym given);
      fits = fitted_front l columns fields row within;
    }
field_stands d l columns bytes fields read Nothing within h given = record { row = read; more = fitted l (drop (length fields) columns) []; others = []; is = h; fits = given }
field_stands d l columns bytes fields read Row within h given = record {
  row = fields;
  more = fitted l (drop (length fields) columns) [];
  others = h.0 ∷ h.1;
  is = h.2 ∙ ap (λ (fs : List Field). fs ∷ h.0 ∷ h.1) (sym given);
  fits = fitted_all l columns fields within;
}

pub word_refused : (d : ℕ) (l : Reading) (columns : List ColumnType) (bytes : List ℕ) (walk : FieldWalk) (fields : List Field) (next : ColumnField) (fault : RowReadError) → IsNext d l columns bytes walk fields next → AreTaken l columns fields → RefusesWord l next.column next.place (field_of next) fault → RefusesFields d l columns bytes fault
word_refused d l columns bytes walk fields next errors.Memory h taken refused = memory_asked d l columns bytes next.place h.within
word_refused d l columns bytes walk fields next (errors.Word at found) h taken refused =
    let f = field_of next in
    let given = fields ++ f ∷ [] in
    let within : length given ≤ length columns = omega (arith, length-append fields (f ∷ []), h.place, h.within) in
    let there = field_stands d l.is_lenient columns bytes given h.walked.read walk.follows within h.walked.follow h.walked.given in
    let column : next.column ≡ get_or columns (length fields) next.column = h.column ∙ ap (λ (n : ℕ). get_or columns n next.column) h.place in
    let untaken : IsUntaken l (get_or columns (length fields) next.column) f = subst (λ (c : ColumnType). IsUntaken l c f) column (refused.2, refused.3) in
    first_told l columns fields (f ∷ there.more) there.row (field_rows d bytes) there.others (errors.Word at found) there.is (there.fits ∙ append_one fields f there.more) taken
    (word_fault l (length fields) columns (length fields) next.column f there.more there.others (errors.Word at found) (omega (arith, h.place, h.within)) (refused.0 ∙ h.place, refused.1) untaken)
word_refused d l columns bytes walk fields next errors.FieldCount h taken refused = absurd refused
word_refused d l columns bytes walk fields next errors.LoneReturn h taken refused = absurd refused

-- ---- how many rows

-- a field before them adds none
pub followed_long : (d : ℕ) (xs rest : List ℕ) (f : Field) → IsFollowed d st.StartField [] false xs f rest → length (field_rows d xs) ≡ length (field_rows d rest)
followed_long d xs rest f h =
    let some = first_field d rest in
    ap length h.rows ∙ ap (λ (rows : List (List Field)). length (onto_first f rows)) some.3 ∙ sym (ap length some.3)
