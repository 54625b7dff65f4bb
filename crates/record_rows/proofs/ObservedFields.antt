-- The fields of a record are observed, one after another.
use Rattle.std.proofs.Common.{◌≡◌, ◌<◌, ◌≤◌, ◌+◌, ℕ, suc, List, [], ◌∷◌, ◌++◌, Bool, false, true, None, cond, refl, sym, ap, ◌∙◌, subst, length, length-append, map, take, drop, get_or, arith, take_all, drop-cons, set, length-set}
use Rattle.std.specs.List.{AllByRecursion}
use Rattle.std.proofs.lemmas.Grind.{take_at_read}
use Rattle.std.proofs.lemmas.List.{drop-set-lt, map-append, take-append-drop, take_more_set}
use Rattle.csv_records.specs.Rows.{Field, field_rows, rows_of}
use Rattle.record_rows.proofs.Reading.{none_taken, refused_push}
use Rattle.record_rows.specs.Observed.{AreObserved, IsFull, IsObserved, IsStep, IsTakenAs, KeepsValid, ObservesField, SomeIsFull, Step}
use Rattle.record_rows.specs.Readings.{Reading}
use Rattle.record_rows.specs.Rows.{Takes, refused_of}
use Rattle.record_rows.specs.Walks.{AreTaken, HasWalked, IsNext, ReadsNext, field_of}
use Rattle.record_rows.specs.declared.fields.ColumnField.{ColumnField}
use Rattle.record_rows.specs.declared.fields.FieldWalk.{FieldWalk}
use Rattle.record_rows.specs.declared.observing.RowNotes.{RowNotes}
use Rattle.record_rows.specs.declared.schema.ColumnType.{ColumnType}
use Rattle.vortex_statistics.specs.Statistics.{known}
use Rattle.vortex_statistics.specs.declared.column_statistics.ColumnStatistics.{ColumnStatistics}
use Rattle.vortex_value.specs.Values.Content.{Content}

all_push : (P : Step → Type 0) (steps : List Step) (s : Step) → AllByRecursion P steps → P s → AllByRecursion P (steps ++ s ∷ [])
all_push P [] s h p = (p, tt)
all_push P (t ∷ steps) s h p = (h.0, all_push P steps s h.1 p)

-- the steps of the columns so far; the statistics of the others are as they were
pub record Stepped (l : Reading) (columns : List ColumnType) (i : ℕ) (old new : List ColumnStatistics) (steps : List Step) : Type 0 where
  pub columns_are : take i columns ≡ map (λ s. s.column) steps
  pub old_are : take i old ≡ map (λ s. s.old) steps
  pub new_are : take i new ≡ map (λ s. s.new) steps
  pub others : drop i new ≡ drop i old
  pub long : length new ≡ length old
  pub each : AllByRecursion (IsStep l) steps

first_same : (xs ys : List ColumnStatistics) (x y : ColumnStatistics) → x ∷ xs ≡ y ∷ ys → (x ≡ y) × (xs ≡ ys)
first_same xs ys x y e = (cc, cc)

-- the statistics of this column and of those behind it are as they were
untouched : (l : Reading) (columns : List ColumnType) (i : ℕ) (old new : List ColumnStatistics) (steps : List Step) (s : ColumnStatistics) → i < length old → Stepped l columns i old new steps
    → (get_or new i s ≡ get_or old i s) × (drop (suc i) new ≡ drop (suc i) old)
untouched l columns i old new steps s within before =
    let reaches : i < length new = omega (arith, before.long) in
    first_same _ _ (get_or new i s) (get_or old i s) (sym (drop-cons new i s reaches) ∙ before.others ∙ drop-cons old i s within)

-- a column more
step_more : (l : Reading) (columns : List ColumnType) (i : ℕ) (old new after : List ColumnStatistics) (steps : List Step) (k : ColumnType) (f : Field) (s t : ColumnStatistics) (b : Bool) → i < length columns → length old ≡ length columns → Stepped l columns i old new steps
    → s ≡ get_or new i s → after ≡ set new i t → KeepsValid s t → (h : ObservesField l (get_or columns i k) f (known s) (known t) b)
    → Stepped l columns (i + 1) old after (steps ++ record { column = get_or columns i k; field = f; content = h.0; flag = b; old = s; new = t } ∷ [])
step_more l columns i old new after steps k f s t b inside long before at put valid h =
    let column = get_or columns i k in
    let step : Step = record { column = column; field = f; content = h.0; flag = b; old = s; new = t } in
    let one : i + 1 ≡ suc i = omega arith in
    let within : i < length old = omega arith in
    let reaches : i < length new = omega (arith, before.long) in
    let same = untouched l columns i old new steps s within before in
    record {
      columns_are = (take_at_read columns i k inside).1 ∙ ap (λ (cs : List ColumnType). cs ++ column ∷ []) before.columns_are ∙ sym (map-append (λ (p : Step). p.column) steps (step ∷ []));
      old_are = (take_at_read old i s within).1 ∙ ap (λ (x : ColumnStatistics). take i old ++ x ∷ []) (sym (at ∙ same.0)) ∙ ap (λ (xs : List ColumnStatistics). xs ++ s ∷ []) before.old_are ∙ sym (map-append (λ (p : Step). p.old) steps (step ∷ []));
      new_are = ap (take (i + 1)) put ∙ take_more_set new i t reaches ∙ ap (λ (xs : List ColumnStatistics). xs ++ t ∷ []) before.new_are ∙ sym (map-append (λ (p : Step). p.new) steps (step ∷ []));
      others = ap (drop (i + 1)) put ∙ drop-set-lt (i + 1) new i t (omega arith) ∙ ap (λ (n : ℕ). drop n new) one ∙ same.1 ∙ ap (λ (n : ℕ). drop n old) (sym one);
      long = ap length put ∙ length-set new i t ∙ before.long;
      each = all_push (IsStep l) steps step before.each (h.1, h.2, valid);
    }

-- the fields so far are observed
pub record Begun (d : ℕ) (l : Reading) (columns : List ColumnType) (bytes : List ℕ) (walk : FieldWalk) (old new : List ColumnStatistics) (refused : ℕ) : Type 0 where
  pub steps : List Step
  pub walked : HasWalked d l columns bytes walk (map (λ s. s.field) steps)
  pub stepped : Stepped l columns walk.place old new steps
  pub count : refused ≡ refused_of (map (λ s. s.flag) steps)

pub begun : (d : ℕ) (l : Reading) (columns : List ColumnType) (bytes : List ℕ) (walk : FieldWalk) (old : List ColumnStatistics) → HasWalked d l columns bytes walk [] → Begun d l columns bytes walk old old 0
begun d l columns bytes walk old h = record {
  steps = [];
  walked = h;
  stepped = subst (λ (n : ℕ). Stepped l columns n old old []) (sym h.place) (record { columns_are = refl; old_are = refl; new_are = refl; others = refl; long = refl; each = tt });
  count = refl;
}

-- a field more
pub more : (d : ℕ) (l : Reading) (columns : List ColumnType) (bytes : List ℕ) (old_walk walk : FieldWalk) (next : ColumnField) (old new after : List ColumnStatistics) (s t : ColumnStatistics) (b : Bool) (n m : ℕ) → length old ≡ length columns → (h : Begun d l columns bytes old_walk old new n)
    → IsNext d l columns bytes walk (map (λ (p : Step). p.field) h.steps) next → s ≡ get_or new next.place s → after ≡ set new next.place t → KeepsValid s t → ObservesField l next.column (field_of next) (known s) (known t) b → m ≡ n + cond b 1 0 → Begun d l columns bytes walk old after m
more d l columns bytes old_walk walk next old new after s t b n m long h is at put valid observes counted =
    let fields = map (λ (p : Step). p.field) h.steps in
    let i = next.place in
    let here : old_walk.place ≡ i = h.walked.place ∙ sym is.place in
    let stepped : Stepped l columns i old new h.steps = subst (λ (k : ℕ). Stepped l columns k old new h.steps) here h.stepped in
    let seen : ObservesField l (get_or columns i next.column) (field_of next) (known s) (known t) b = subst (λ (c : ColumnType). ObservesField l c (field_of next) (known s) (known t) b) is.column observes in
    let step : Step = record { column = get_or columns i next.column; field = field_of next; content = seen.0; flag = b; old = s; new = t } in
    let moved : i + 1 ≡ walk.place = omega (arith, is.place, is.walked.place, length-append fields (field_of next ∷ [])) in
    record {
      steps = h.steps ++ step ∷ [];
      walked = subst (HasWalked d l columns bytes walk) (sym (map-append (λ (p : Step). p.field) h.steps (step ∷ []))) is.walked;
      stepped = subst (λ (k : ℕ). Stepped l columns k old after (h.steps ++ step ∷ [])) moved (step_more l columns i old new after h.steps next.column (field_of next) s t b is.within long stepped at put valid seen);
      count = refused_push (map (λ (p : Step). p.flag) h.steps) b n m h.count counted ∙ ap refused_of (sym (map-append (λ (p : Step). p.flag) h.steps (step ∷ [])));
    }

as_taken : (l : Reading) (c : ColumnType) (f : Field) (x : Content) (b : Bool) → IsTakenAs l c f x b → Takes l c f
as_taken l c f x false h = (false, (x, h))
as_taken l c f x true h = (true, (h.0, h.1, h.2))

steps_taken : (l : Reading) (steps : List Step) (more : List ColumnType) → AllByRecursion (IsStep l) steps → AreTaken l (map (λ (p : Step). p.column) steps ++ more) (map (λ (p : Step). p.field) steps)
steps_taken l [] more h = none_taken l more
steps_taken l (s ∷ steps) more h = (as_taken l s.column s.field s.content s.flag h.0.0, steps_taken l steps more h.1)

-- the fields so far are taken
pub begun_taken : (d : ℕ) (l : Reading) (columns : List ColumnType) (bytes : List ℕ) (walk : FieldWalk) (old new : List ColumnStatistics) (n : ℕ) → (h : Begun d l columns bytes walk old new n) → AreTaken l columns (map (λ (p : Step). p.field) h.steps)
begun_taken d l columns bytes walk old new n h =
    let i = walk.place in
    let parts : map (λ (p : Step). p.column) h.steps ++ drop i columns ≡ columns = ap (λ (cs : List ColumnType). cs ++ drop i columns) (sym h.stepped.columns_are) ∙ take-append-drop i columns in
    subst (λ (cs : List ColumnType). AreTaken l cs (map (λ (p : Step). p.field) h.steps)) parts (steps_taken l h.steps (drop i columns) h.stepped.each)

-- the statistics of the next column are full: some were from the beginning
pub full_among : (d : ℕ) (l : Reading) (columns : List ColumnType) (bytes : List ℕ) (old_walk walk : FieldWalk) (next : ColumnField) (old new : List ColumnStatistics) (s : ColumnStatistics) (n : ℕ) → length old ≡ length columns → (h : Begun d l columns bytes old_walk old new n)
    → IsNext d l columns bytes walk (map (λ (p : Step). p.field) h.steps) next → s ≡ get_or new next.place s → IsFull s → SomeIsFull old
full_among d l columns bytes old_walk walk next old new s n long h is at full =
    let i = next.place in
    let here : old_walk.place ≡ i = h.walked.place ∙ sym is.place in
    let stepped : Stepped l columns i old new h.steps = subst (λ (k : ℕ). Stepped l columns k old new h.steps) here h.stepped in
    let within : i < length old = omega (arith, long, is.within) in
    (s, (i, within, sym (at ∙ (untouched l columns i old new h.steps s within stepped).0)), full)

-- behind the last one
pub ended : (d : ℕ) (l : Reading) (columns : List ColumnType) (bytes : List ℕ) (walk last : FieldWalk) (old new : List ColumnStatistics) (n : ℕ) → length old ≡ length columns → (h : Begun d l columns bytes walk old new n) → ReadsNext d l columns bytes last (map (λ (p : Step). p.field) h.steps) None
    → AreObserved d l columns bytes old new (record { refused = n; is_longer = last.is_longer })
ended d l columns bytes walk last old new n long h none =
    let past : length columns ≤ walk.place = omega (arith, h.walked.place, none.count) in (
      none.row,
      none.is,
      (
        record {
          steps = h.steps;
          fields_are = none.fields_are;
          columns_are = sym (take_all walk.place columns past) ∙ h.stepped.columns_are;
          old_are = sym (take_all walk.place old (omega (arith, long, past))) ∙ h.stepped.old_are;
          new_are = sym (take_all walk.place new (omega (arith, long, past, h.stepped.long))) ∙ h.stepped.new_are;
          each = h.stepped.each;
          count = h.count;
        },
        none.longer,
      ),
    )

pub observed_line : (d : ℕ) (l : Reading) (columns : List ColumnType) (line start : List ℕ) (old new : List ColumnStatistics) (notes : RowNotes) → rows_of d line ≡ field_rows d start → AreObserved d l columns start old new notes → IsObserved d l columns line old new notes
observed_line d l columns line start old new notes same h = (h.0, same ∙ h.1, h.2)
