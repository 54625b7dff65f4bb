-- Where a record may start, the rows of a text are those of what is before and of what follows.
use Rattle.std.proofs.Common.{◌≡◌, ℕ, List, [], ◌∷◌, ◌++◌, ◌==◌, ◌||◌, Bool, true, false, cond, refl, ap, ◌∙◌}
use Rattle.std.specs.List.{onto_first}
use Rattle.csv.specs.Machine.{ends_at_end, field_after, in_field, start_field, start_record, step}
use Rattle.csv.specs.declared.parser.Action.{Action}
use Rattle.csv.specs.declared.parser.Action.TheVariants as act
use Rattle.csv.specs.declared.parser.State.{State}
use Rattle.csv.specs.declared.parser.State.TheVariants as st
use Rattle.csv_records.specs.Rows.{Field, config_of, field_rows, is_in_quotes, joined, quoted_after, rows_from, rows_of, state_after}

-- inside of a row
abbrev pub is_inside : State → Bool
is_inside st.StartField = true
is_inside st.InField = true
is_inside st.InQuoted = true
is_inside st.AfterQuote = true
is_inside st.InEscape = true
is_inside st.StartRecord = false
is_inside st.AfterCr = false
is_inside st.InComment = false

-- a byte that neither ends a field nor a row leads on inside of it
abbrev Stays : State × Action → Type 0
Stays (s, act.Skip) = is_inside s ≡ true
Stays (s, act.Copy) = is_inside s ≡ true
Stays (s, act.EndField) = is_inside s ≡ true
Stays (s, act.EndRecord) = Unit {0}

field_stays : (x t r : Bool) → Stays (cond x (st.StartField, act.EndField) (cond t (cond r st.AfterCr st.StartRecord, act.EndRecord) (st.InField, act.Copy)))
field_stays true t r = refl
field_stays false true r = tt
field_stays false false r = refl

in_field_stays : (d c : ℕ) → Stays (in_field (config_of d) c)
in_field_stays d c = field_stays (c == d) ((c == 13) || (c == 10)) (c == 13)

choose_stays : (b : Bool) (x y : State × Action) → Stays x → Stays y → Stays (cond b x y)
choose_stays true x y p q = p
choose_stays false x y p q = q

inside_stays : (d : ℕ) (s : State) (c : ℕ) → is_inside s ≡ true → Stays (step (config_of d) s c)
inside_stays d st.StartField c h = choose_stays (c == 34) (st.InQuoted, act.Skip) (in_field (config_of d) c) refl (in_field_stays d c)
inside_stays d st.InField c h = in_field_stays d c
inside_stays d st.InQuoted c h = choose_stays (c == 34) (st.AfterQuote, act.Skip) (st.InQuoted, act.Copy) refl refl
inside_stays d st.AfterQuote c h = choose_stays (c == 34) (st.InQuoted, act.Copy) (in_field (config_of d) c) refl (in_field_stays d c)
inside_stays d st.InEscape c h = refl
inside_stays d st.StartRecord c h = absurd cc
inside_stays d st.AfterCr c h = absurd cc
inside_stays d st.InComment c h = absurd cc

-- some first row, and others
abbrev IsSome : List (List Field) → Type 0
IsSome rows = (first : List Field) × (others : List (List Field)) × (rows ≡ first ∷ others)

onto_some : (f : Field) (rows : List (List Field)) → IsSome (onto_first f rows)
onto_some f [] = (f ∷ [], [], refl)
onto_some f (row ∷ rows) = (f ∷ row, rows, refl)

joined_some : (r : State × Action) (f : Field) (rows : List (List Field)) → Stays r → (is_inside r.0 ≡ true → IsSome rows) → IsSome (joined r.1 f rows)
joined_some (s, act.Skip) f rows h k = k h
joined_some (s, act.Copy) f rows h k = k h
joined_some (s, act.EndField) f rows h k = onto_some f rows
joined_some (s, act.EndRecord) f rows h k = (f ∷ [], rows, refl)

ends_inside : (s : State) → is_inside s ≡ true → ends_at_end s ≡ true
ends_inside st.StartField h = refl
ends_inside st.InField h = refl
ends_inside st.InQuoted h = refl
ends_inside st.AfterQuote h = refl
ends_inside st.InEscape h = refl
ends_inside st.StartRecord h = absurd cc
ends_inside st.AfterCr h = absurd cc
ends_inside st.InComment h = absurd cc

-- inside of a row there is one
pub some_row : (d : ℕ) (s : State) (t : List ℕ) (q : Bool) (xs : List ℕ) → is_inside s ≡ true → IsSome (rows_from d s t q xs)
some_row d s t q [] h = (record { text = t; is_quoted = q } ∷ [], [], rw (ends_inside s h) refl)
some_row d s t q (c ∷ xs) h =
    let r = step (config_of d) s c in
    joined_some r (record { text = t; is_quoted = q }) (rows_from d r.0 (field_after r.1 c t) (quoted_after r.1 r.0 q) xs) (inside_stays d s c h)
    (λ inside. some_row d r.0 (field_after r.1 c t) (quoted_after r.1 r.0 q) xs inside)

-- a first row with some field, and others
abbrev pub HasField : List (List Field) → Type 0
HasField rows = (f : Field) × (row : List Field) × (others : List (List Field)) × (rows ≡ (f ∷ row) ∷ others)

onto_field : (f : Field) (rows : List (List Field)) → HasField (onto_first f rows)
onto_field f [] = (f, [], [], refl)
onto_field f (row ∷ rows) = (f, row, rows, refl)

joined_field : (r : State × Action) (f : Field) (rows : List (List Field)) → Stays r → (is_inside r.0 ≡ true → HasField rows) → HasField (joined r.1 f rows)
joined_field (s, act.Skip) f rows h k = k h
joined_field (s, act.Copy) f rows h k = k h
joined_field (s, act.EndField) f rows h k = onto_field f rows
joined_field (s, act.EndRecord) f rows h k = (f, [], rows, refl)

-- inside of a row it has a field
pub some_field : (d : ℕ) (s : State) (t : List ℕ) (q : Bool) (xs : List ℕ) → is_inside s ≡ true → HasField (rows_from d s t q xs)
some_field d s t q [] h = (record { text = t; is_quoted = q }, [], [], rw (ends_inside s h) refl)
some_field d s t q (c ∷ xs) h =
    let r = step (config_of d) s c in
    joined_field r (record { text = t; is_quoted = q }) (rows_from d r.0 (field_after r.1 c t) (quoted_after r.1 r.0 q) xs) (inside_stays d s c h)
    (λ inside. some_field d r.0 (field_after r.1 c t) (quoted_after r.1 r.0 q) xs inside)

-- the rows of a text that begins where a field does have one
pub first_field : (d : ℕ) (xs : List ℕ) → HasField (field_rows d xs)
first_field d xs = some_field d st.StartField [] false xs refl

-- no field is at hand where none was begun
abbrev Clean : State → List ℕ → Bool → Type 0
Clean st.StartRecord t q = (t ≡ []) × (q ≡ false)
Clean st.AfterCr t q = (t ≡ []) × (q ≡ false)
Clean st.InComment t q = (t ≡ []) × (q ≡ false)
Clean st.StartField t q = Unit {0}
Clean st.InField t q = Unit {0}
Clean st.InQuoted t q = Unit {0}
Clean st.AfterQuote t q = Unit {0}
Clean st.InEscape t q = Unit {0}

clean_inside : (s : State) (t : List ℕ) (q : Bool) → is_inside s ≡ true → Clean s t q
clean_inside st.StartField t q h = tt
clean_inside st.InField t q h = tt
clean_inside st.InQuoted t q h = tt
clean_inside st.AfterQuote t q h = tt
clean_inside st.InEscape t q h = tt
clean_inside st.StartRecord t q h = absurd cc
clean_inside st.AfterCr t q h = absurd cc
clean_inside st.InComment t q h = absurd cc

clean_none : (s : State) → Clean s [] false
clean_none st.StartRecord = (refl, refl)
clean_none st.AfterCr = (refl, refl)
clean_none st.InComment = (refl, refl)
clean_none st.StartField = tt
clean_none st.InField = tt
clean_none st.InQuoted = tt
clean_none st.AfterQuote = tt
clean_none st.InEscape = tt

-- where a byte leads
abbrev Goes : State × Action → ℕ → List ℕ → Bool → Type 0
Goes r c t q = Clean r.0 (field_after r.1 c t) (quoted_after r.1 r.0 q)

stays_goes : (r : State × Action) (c : ℕ) (t : List ℕ) (q : Bool) → Stays r → Goes r c t q
stays_goes (s, act.Skip) c t q h = clean_inside s t (q || is_in_quotes s) h
stays_goes (s, act.Copy) c t q h = clean_inside s (t ++ c ∷ []) q h
stays_goes (s, act.EndField) c t q h = clean_none s
stays_goes (s, act.EndRecord) c t q h = clean_none s

choose_goes : (b : Bool) (x y : State × Action) (c : ℕ) (t : List ℕ) (q : Bool) → Goes x c t q → Goes y c t q → Goes (cond b x y) c t q
choose_goes true x y c t q p k = p
choose_goes false x y c t q p k = k

start_record_goes : (d c : ℕ) (t : List ℕ) (q : Bool) → (t ≡ []) × (q ≡ false) → Goes (start_record (config_of d) c) c t q
start_record_goes d c t q h =
    choose_goes ((c == 13) || (c == 10)) (st.StartRecord, act.Skip) (start_field (config_of d) c) c t q (h.0, rw h.1 refl)
    (stays_goes (start_field (config_of d) c) c t q (inside_stays d st.StartField c refl))

step_goes : (d : ℕ) (s : State) (c : ℕ) (t : List ℕ) (q : Bool) → Clean s t q → Goes (step (config_of d) s c) c t q
step_goes d st.StartRecord c t q h = start_record_goes d c t q h
step_goes d st.AfterCr c t q h = choose_goes (c == 10) (st.StartRecord, act.Skip) (start_record (config_of d) c) c t q (h.0, rw h.1 refl) (start_record_goes d c t q h)
step_goes d st.InComment c t q h = choose_goes (c == 10) (st.StartRecord, act.Skip) (st.InComment, act.Skip) c t q (h.0, rw h.1 refl) (h.0, rw h.1 refl)
step_goes d st.StartField c t q h = stays_goes (step (config_of d) st.StartField c) c t q (inside_stays d st.StartField c refl)
step_goes d st.InField c t q h = stays_goes (step (config_of d) st.InField c) c t q (inside_stays d st.InField c refl)
step_goes d st.InQuoted c t q h = stays_goes (step (config_of d) st.InQuoted c) c t q (inside_stays d st.InQuoted c refl)
step_goes d st.AfterQuote c t q h = stays_goes (step (config_of d) st.AfterQuote c) c t q (inside_stays d st.AfterQuote c refl)
step_goes d st.InEscape c t q h = stays_goes (step (config_of d) st.InEscape c) c t q (inside_stays d st.InEscape c refl)

-- the rows of two parts, where what is at hand goes on
joined-append : (r : State × Action) (f : Field) (xs ys : List (List Field)) → (r.1 ≡ act.EndField → IsSome xs) → joined r.1 f (xs ++ ys) ≡ joined r.1 f xs ++ ys
joined-append (s, act.Skip) f xs ys h = refl
joined-append (s, act.Copy) f xs ys h = refl
joined-append (s, act.EndRecord) f xs ys h = refl
joined-append (s, act.EndField) f xs ys h =
    let some = h refl in
    rw some.2 refl

abbrev EndsInside : State × Action → Type 0
EndsInside r = r.1 ≡ act.EndField → is_inside r.0 ≡ true

field_ends_inside : (x t r : Bool) → EndsInside (cond x (st.StartField, act.EndField) (cond t (cond r st.AfterCr st.StartRecord, act.EndRecord) (st.InField, act.Copy)))
field_ends_inside true t r = λ _. refl
field_ends_inside false true r = λ e. absurd cc
field_ends_inside false false r = λ e. absurd cc

choose_inside : (b : Bool) (x y : State × Action) → EndsInside x → EndsInside y → EndsInside (cond b x y)
choose_inside true x y p q = p
choose_inside false x y p q = q

in_field_inside : (d c : ℕ) → EndsInside (in_field (config_of d) c)
in_field_inside d c = field_ends_inside (c == d) ((c == 13) || (c == 10)) (c == 13)

start_field_inside : (d c : ℕ) → EndsInside (start_field (config_of d) c)
start_field_inside d c = choose_inside (c == 34) (st.InQuoted, act.Skip) (in_field (config_of d) c) (λ e. absurd cc) (in_field_inside d c)

start_record_inside : (d c : ℕ) → EndsInside (start_record (config_of d) c)
start_record_inside d c = choose_inside ((c == 13) || (c == 10)) (st.StartRecord, act.Skip) (start_field (config_of d) c) (λ e. absurd cc) (start_field_inside d c)

pub step_inside : (d : ℕ) (s : State) (c : ℕ) → EndsInside (step (config_of d) s c)
step_inside d st.StartRecord c = start_record_inside d c
step_inside d st.AfterCr c = choose_inside (c == 10) (st.StartRecord, act.Skip) (start_record (config_of d) c) (λ e. absurd cc) (start_record_inside d c)
step_inside d st.InComment c = choose_inside (c == 10) (st.StartRecord, act.Skip) (st.InComment, act.Skip) (λ e. absurd cc) (λ e. absurd cc)
step_inside d st.StartField c = start_field_inside d c
step_inside d st.InField c = in_field_inside d c
step_inside d st.InQuoted c = choose_inside (c == 34) (st.AfterQuote, act.Skip) (st.InQuoted, act.Copy) (λ e. absurd cc) (λ e. absurd cc)
step_inside d st.AfterQuote c = choose_inside (c == 34) (st.InQuoted, act.Copy) (in_field (config_of d) c) (λ e. absurd cc) (in_field_inside d c)
step_inside d st.InEscape c = λ e. absurd cc

cut_none : (d : ℕ) (s : State) (t : List ℕ) (q : Bool) (ys : List ℕ) → Clean s t q → s ≡ st.StartRecord → rows_from d s t q ys ≡ rows_from d s t q [] ++ rows_of d ys
cut_none d st.StartRecord t q ys h e = rw (h.0, h.1) refl
cut_none d st.AfterCr t q ys h e = absurd cc
cut_none d st.InComment t q ys h e = absurd cc
cut_none d st.StartField t q ys h e = absurd cc
cut_none d st.InField t q ys h e = absurd cc
cut_none d st.InQuoted t q ys h e = absurd cc
cut_none d st.AfterQuote t q ys h e = absurd cc
cut_none d st.InEscape t q ys h e = absurd cc

cut_from : (d : ℕ) (s : State) (t : List ℕ) (q : Bool) (xs ys : List ℕ) → Clean s t q → state_after d s xs ≡ st.StartRecord → rows_from d s t q (xs ++ ys) ≡ rows_from d s t q xs ++ rows_of d ys
cut_from d s t q [] ys h e = cut_none d s t q ys h e
cut_from d s t q (c ∷ xs) ys h e =
    let r = step (config_of d) s c in
    let f : Field = record { text = t; is_quoted = q } in
    ap (joined r.1 f) (cut_from d r.0 (field_after r.1 c t) (quoted_after r.1 r.0 q) xs ys (step_goes d s c t q h) e)
    ∙ joined-append r f (rows_from d r.0 (field_after r.1 c t) (quoted_after r.1 r.0 q) xs) (rows_of d ys) (λ ended. some_row d r.0 (field_after r.1 c t) (quoted_after r.1 r.0 q) xs (step_inside d s c ended))

pub rows_are_cut : (d : ℕ) (xs ys : List ℕ) → state_after d st.StartRecord xs ≡ st.StartRecord → rows_of d (xs ++ ys) ≡ rows_of d xs ++ rows_of d ys
rows_are_cut d xs ys e = cut_from d st.StartRecord [] false xs ys (refl, refl) e
