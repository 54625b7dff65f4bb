-- Fields, byte by byte.
use Rattle.std.proofs.Common.{◌≡◌, ◌≢◌, ◌⊎◌, inl, inr, ◌≤◌, ◌<◌, ◌+◌, ℕ, suc, List, [], ◌∷◌, ◌++◌, ◌==◌, ◌&&◌, ◌||◌, Bool, true, false, cond, refl, sym, ap, ◌∙◌, subst, length, take, drop, get_or, arith, append_assoc, append-nil}
use Rattle.std.proofs.lemmas.Bool.{eq-eqb, eqb-true, ne_eqb}
use Rattle.std.proofs.lemmas.List.{get_or-take, length-take, length-drop, drop_more, take-append-drop}
use Rattle.csv.specs.Machine.{in_field, step}
use Rattle.csv.specs.declared.parser.Action.{Action}
use Rattle.csv.specs.declared.parser.Action.TheVariants as act
use Rattle.csv.specs.declared.parser.State.{State}
use Rattle.csv.specs.declared.parser.State.TheVariants as st
use Rattle.memchr.specs.Find.{NoneBefore, Nowhere, Passes, is_byte}
use Rattle.csv_records.specs.Fields.{AreBare, BeginsBare, EndsRow, IsCut, IsFollowed}
use Rattle.csv_records.specs.Rows.{Field, config_of, field_rows, rows_from, rows_of}
use Rattle.csv_records.specs.declared.fields.Follows.{Follows}
use Rattle.csv_records.specs.declared.fields.Follows.TheVariants.{Another, Nothing, Row}
use Rattle.csv_records.proofs.RowCuts.{first_field}

-- from the first of two offsets the rows are those from the second
pub record Leads (d : ℕ) (s : State) (t : List ℕ) (q : Bool) (xs : List ℕ) (r : State) (u : List ℕ) (p : Bool) (ys : List ℕ) : Type 0 where
  pub rows : rows_from d s t q xs ≡ rows_from d r u p ys
  pub shorter : length ys ≤ length xs

-- what is cut at the second is cut at the first
pub cut_along : (d : ℕ) (s : State) (t : List ℕ) (q : Bool) (xs : List ℕ) (r : State) (u : List ℕ) (p : Bool) (ys : List ℕ) (f : Field) (o : Follows) → Leads d s t q xs r u p ys → IsCut d r u p ys f o → IsCut d s t q xs f o
cut_along d s t q xs r u p ys f (Another rest) l c = record { rows = l.rows ∙ c.rows; shorter = omega (arith, l.shorter, c.shorter) }
cut_along d s t q xs r u p ys f Nothing l c = l.rows ∙ c
cut_along d s t q xs r u p ys f Row l c = record { next = c.next; others = c.others; is = l.rows ∙ c.is }

leads_on : (d : ℕ) (s : State) (t : List ℕ) (q : Bool) (xs : List ℕ) (r : State) (u : List ℕ) (p : Bool) (ys : List ℕ) (z : State) (v : List ℕ) (w : Bool) (zs : List ℕ) → Leads d s t q xs r u p ys → Leads d r u p ys z v w zs → Leads d s t q xs z v w zs
leads_on d s t q xs r u p ys z v w zs a b = record { rows = a.rows ∙ b.rows; shorter = omega (arith, a.shorter, b.shorter) }

-- ---- a field without quotes

abbrev in_step : Bool → Bool → Bool → State × Action
in_step a b c = cond a (st.StartField, act.EndField) (cond (b || c) (cond b st.AfterCr st.StartRecord, act.EndRecord) (st.InField, act.Copy))

abbrev copies : State × Action
copies = (st.InField, act.Copy)

bare_step : (a b c : Bool) → a ≡ false → b ≡ false → c ≡ false → in_step a b c ≡ copies
bare_step a b c p q r = rw (p, q, r) refl

is_bare : (d c : ℕ) → (c ≢ d) × (c ≢ 13) × (c ≢ 10) → in_field (config_of d) c ≡ copies
is_bare d c h = bare_step (c == d) (c == 13) (c == 10) (ne_eqb c d h.0) (ne_eqb c 13 h.1) (ne_eqb c 10 h.2)

bare_rest : (d c : ℕ) (xs : List ℕ) → AreBare d (c ∷ xs) → AreBare d xs
bare_rest d c xs h k below = h (suc k) (omega arith)

bare_run : (d : ℕ) (t : List ℕ) (q : Bool) (xs ys : List ℕ) → AreBare d xs → rows_from d st.InField t q (xs ++ ys) ≡ rows_from d st.InField (t ++ xs) q ys
bare_run d t q [] ys h = ap (λ (l : List ℕ). rows_from d st.InField l q ys) (sym (append-nil t))
bare_run d t q (c ∷ xs) ys h =
    rw (is_bare d c (h 0 (omega arith))) (bare_run d (t ++ c ∷ []) q xs ys (bare_rest d c xs h) ∙ ap (λ (l : List ℕ). rows_from d st.InField l q ys) (append_assoc t (c ∷ []) xs))

-- up to where the field ends
pub bare_leads : (d : ℕ) (t : List ℕ) (q : Bool) (text : List ℕ) (end : ℕ) → AreBare d (take end text) → Leads d st.InField t q text st.InField (t ++ take end text) q (drop end text)
bare_leads d t q text end h =
    let parts = take-append-drop end text in
    record {
      rows = ap (rows_from d st.InField t q) (sym parts) ∙ bare_run d t q (take end text) (drop end text) h;
      shorter = omega (arith, length-drop end text);
    }

pub delimiter_cuts : (d : ℕ) (t : List ℕ) (q : Bool) (rest : List ℕ) (c : ℕ) → c ≡ d → IsFollowed d st.InField t q (c ∷ rest) (record { text = t; is_quoted = q }) rest
delimiter_cuts d t q rest c e =
    record { rows = rw (eq-eqb c d e) refl; shorter = omega arith }

abbrev ends_row : ℕ → State × Action
ends_row c = (cond (c == 13) st.AfterCr st.StartRecord, act.EndRecord)

ends_step : (a b c : Bool) → a ≡ false → (b || c) ≡ true → in_step a b c ≡ (cond b st.AfterCr st.StartRecord, act.EndRecord)
ends_step a b c p q = rw (p, q) refl

right_true : (b : Bool) → (b || true) ≡ true
right_true true = refl
right_true false = refl

or_true : (c : ℕ) → (c ≡ 13) ⊎ (c ≡ 10) → ((c == 13) || (c == 10)) ≡ true
or_true c (inl e) = rw (eq-eqb c 13 e) refl
or_true c (inr e) = rw (eq-eqb c 10 e) (right_true (c == 13))

is_row_end : (d c : ℕ) → c ≢ d → (c ≡ 13) ⊎ (c ≡ 10) → in_field (config_of d) c ≡ ends_row c
is_row_end d c other ends = ends_step (c == d) (c == 13) (c == 10) (ne_eqb c d other) (or_true c ends)

-- where a carriage return ended a row, as where a record may start
after_return : (d : ℕ) (xs : List ℕ) → rows_from d st.AfterCr [] false xs ≡ rows_of d xs
after_return d [] = refl
after_return d (c ∷ xs) = by_feed (c == 10) refl
  where
    by_feed : (b : Bool) → (c == 10) ≡ b → rows_from d st.AfterCr [] false (c ∷ xs) ≡ rows_of d (c ∷ xs)
    by_feed true e = rw (e, right_true (c == 13)) refl
    by_feed false e = rw e refl

rows_after : (d : ℕ) (b : Bool) (xs : List ℕ) → rows_from d (cond b st.AfterCr st.StartRecord) [] false xs ≡ rows_of d xs
rows_after d true xs = after_return d xs
rows_after d false xs = refl

-- a row that ends, and those of what stands behind it
row_ended : (d : ℕ) (t : List ℕ) (q : Bool) (c : ℕ) (rest : List ℕ) → c ≢ d → (c ≡ 13) ⊎ (c ≡ 10) → rows_from d st.InField t q (c ∷ rest) ≡ (record { text = t; is_quoted = q } ∷ []) ∷ rows_of d rest
row_ended d t q c rest other ends =
    let f : Field = record { text = t; is_quoted = q } in
    rw (is_row_end d c other ends) (ap (λ (rows : List (List Field)). (f ∷ []) ∷ rows) (rows_after d (c == 13) rest))

pub row_ends : (d : ℕ) (t : List ℕ) (q : Bool) (c : ℕ) (rest : List ℕ) → c ≢ d → (c ≡ 13) ⊎ (c ≡ 10) → rows_of d rest ≡ [] → rows_from d st.InField t q (c ∷ rest) ≡ (record { text = t; is_quoted = q } ∷ []) ∷ []
row_ends d t q c rest other ends none =
    let f : Field = record { text = t; is_quoted = q } in
    row_ended d t q c rest other ends ∙ ap (λ (rows : List (List Field)). (f ∷ []) ∷ rows) none

pub row_follows : (d : ℕ) (t : List ℕ) (q : Bool) (c : ℕ) (rest start : List ℕ) → c ≢ d → (c ≡ 13) ⊎ (c ≡ 10) → rows_of d rest ≡ field_rows d start → EndsRow (record { text = t; is_quoted = q }) (rows_from d st.InField t q (c ∷ rest))
row_follows d t q c rest start other ends same =
    let f : Field = record { text = t; is_quoted = q } in
    let some = first_field d start in
    record {
      next = some.0 ∷ some.1;
      others = some.2;
      is = row_ended d t q c rest other ends ∙ ap (λ (rows : List (List Field)). (f ∷ []) ∷ rows) (same ∙ some.3);
    }

-- ---- a field in quotes

quote_step : (d c : ℕ) → c ≢ 34 → step (config_of d) st.InQuoted c ≡ (st.InQuoted, act.Copy)
quote_step d c other = rw (ne_eqb c 34 other) refl

abbrev Unquoted : List ℕ → Type 0
Unquoted xs = (k : ℕ) → k < length xs → get_or xs k 0 ≢ 34

quoted_run : (d : ℕ) (t xs ys : List ℕ) → Unquoted xs → rows_from d st.InQuoted t true (xs ++ ys) ≡ rows_from d st.InQuoted (t ++ xs) true ys
quoted_run d t [] ys h = ap (λ (l : List ℕ). rows_from d st.InQuoted l true ys) (sym (append-nil t))
quoted_run d t (c ∷ xs) ys h =
    rw (ne_eqb c 34 (h 0 (omega arith))) (quoted_run d (t ++ c ∷ []) xs ys (λ k below. h (suc k) (omega arith)) ∙ ap (λ (l : List ℕ). rows_from d st.InQuoted l true ys) (append_assoc t (c ∷ []) xs))

-- up to the next quote and past it
pub record IsNextQuote (xs : List ℕ) (quote : ℕ) : Type 0 where
  pub found : NoneBefore (Passes (is_byte 34) xs) 0 (length xs) quote × Passes (is_byte 34) xs quote

pub quote_leads : (d : ℕ) (t xs : List ℕ) (quote : ℕ) → IsNextQuote xs quote → Leads d st.InQuoted t true xs st.AfterQuote (t ++ take quote xs) true (drop (quote + 1) xs)
quote_leads d t xs quote next =
    let inside : quote < length xs = next.found.0.high in
    let front = take quote xs in
    let back = drop (quote + 1) xs in
    let is : get_or xs quote 0 ≡ 34 = eqb-true _ _ next.found.1 in
    let parts : xs ≡ front ++ 34 ∷ back = sym (take-append-drop quote xs) ∙ ap (λ (l : List ℕ). front ++ l) (drop_more xs quote 0 inside ∙ ap (λ b. b ∷ back) is) in
    let plain : Unquoted front = λ k below e.
    next.found.0.before k (omega arith) (omega (arith, length-take quote xs)) (eq-eqb (get_or xs k 0) 34 (sym (get_or-take quote xs k 0 (omega (arith, length-take quote xs))) ∙ e)) in
    record {
      rows = ap (rows_from d st.InQuoted t true) parts ∙ quoted_run d t front (34 ∷ back) plain;
      shorter = omega (arith, length-drop (quote + 1) xs);
    }

-- no quote follows
pub quoted_last : (d : ℕ) (t xs : List ℕ) → Nowhere (Passes (is_byte 34) xs) 0 (length xs) → rows_from d st.InQuoted t true xs ≡ (record { text = t ++ xs; is_quoted = true } ∷ []) ∷ []
quoted_last d t xs nowhere =
    let plain : Unquoted xs = λ k below e. nowhere k (omega arith) below (eq-eqb (get_or xs k 0) 34 e) in
    ap (rows_from d st.InQuoted t true) (sym (append-nil xs)) ∙ quoted_run d t xs [] plain

-- a quote after a quote
pub second_quote : (d : ℕ) (t xs : List ℕ) → Leads d st.AfterQuote t true (34 ∷ xs) st.InQuoted (t ++ 34 ∷ []) true xs
second_quote d t xs = record { rows = refl; shorter = omega arith }

-- no quote after a quote
pub after_quote : (d : ℕ) (t xs : List ℕ) → BeginsBare xs → Leads d st.AfterQuote t true xs st.InField t true xs
after_quote d t [] h = record { rows = refl; shorter = omega arith }
after_quote d t (c ∷ xs) h = record { rows = rw (ne_eqb c 34 h) refl; shorter = omega arith }

-- ---- the beginning of a field

pub starts_bare : (d : ℕ) (t : List ℕ) (q : Bool) (xs : List ℕ) → BeginsBare xs → Leads d st.StartField t q xs st.InField t q xs
starts_bare d t q [] h = record { rows = refl; shorter = omega arith }
starts_bare d t q (c ∷ xs) h = record { rows = rw (ne_eqb c 34 h) refl; shorter = omega arith }

pub starts_quoted : (d : ℕ) (xs : List ℕ) → Leads d st.StartField [] false (34 ∷ xs) st.InQuoted [] true xs
starts_quoted d xs = record { rows = refl; shorter = omega arith }

-- ---- the beginning of a row

line_byte : (c : ℕ) (b : Bool) → ((c == 13) || (c == 10)) ≡ b → (c ≢ 13) → (c ≢ 10) → b ≡ false
line_byte c b e p q = sym e ∙ rw (ne_eqb c 13 p, ne_eqb c 10 q) refl

pub row_starts : (d c : ℕ) (xs : List ℕ) → c ≢ 13 → c ≢ 10 → rows_of d (c ∷ xs) ≡ field_rows d (c ∷ xs)
row_starts d c xs p q = rw (ne_eqb c 13 p, ne_eqb c 10 q) refl

pub line_bytes : (d c : ℕ) (xs : List ℕ) → (c ≡ 13) ⊎ (c ≡ 10) → rows_of d (c ∷ xs) ≡ rows_of d xs
line_bytes d c xs h = rw (or_true c h) refl

pub at_front : (P : List ℕ → Type 0) (xs : List ℕ) → 1 ≤ length xs → P (get_or xs 0 0 ∷ drop 1 xs) → P xs
at_front P [] some h = absurd (omega arith)
at_front P (x ∷ xs) some h = h

-- ---- inside of quotes

pub quote_doubled : (d : ℕ) (text buf rest after next new : List ℕ) (quote : ℕ) → Leads d st.InQuoted [] true text st.InQuoted buf true rest → IsNextQuote rest quote → after ≡ drop (quote + 1) rest → after ≡ 34 ∷ next
    → new ≡ (buf ++ take quote rest) ++ 34 ∷ [] → Leads d st.InQuoted [] true text st.InQuoted new true next
quote_doubled d text buf rest after next new quote leads found is same new_is =
    let front = buf ++ take quote rest in
    let first = leads_on d st.InQuoted [] true text st.InQuoted buf true rest st.AfterQuote front true (drop (quote + 1) rest) leads (quote_leads d buf rest quote found) in
    let at : Leads d st.InQuoted [] true text st.AfterQuote front true (34 ∷ next) = subst (Leads d st.InQuoted [] true text st.AfterQuote front true) (sym is ∙ same) first in
    subst (λ (l : List ℕ). Leads d st.InQuoted [] true text st.InQuoted l true next) (sym new_is)
    (leads_on d st.InQuoted [] true text st.AfterQuote front true (34 ∷ next) st.InQuoted (front ++ 34 ∷ []) true next at (second_quote d front next))

pub quote_closes : (d : ℕ) (text buf rest after old : List ℕ) (quote : ℕ) (f : Field) (o : Follows) → Leads d st.InQuoted [] true text st.InQuoted buf true rest → IsNextQuote rest quote → after ≡ drop (quote + 1) rest
    → old ≡ buf ++ take quote rest → IsCut d st.AfterQuote old true after f o → IsCut d st.InQuoted [] true text f o
quote_closes d text buf rest after old quote f o leads found is old_is cut =
    let front = buf ++ take quote rest in
    let first = leads_on d st.InQuoted [] true text st.InQuoted buf true rest st.AfterQuote front true (drop (quote + 1) rest) leads (quote_leads d buf rest quote found) in
    let at : IsCut d st.AfterQuote front true after f o = subst (λ (l : List ℕ). IsCut d st.AfterQuote l true after f o) old_is cut in
    cut_along d st.InQuoted [] true text st.AfterQuote front true (drop (quote + 1) rest) f o first (subst (λ (l : List ℕ). IsCut d st.AfterQuote front true l f o) is at)

pub quote_lacks : (d : ℕ) (text buf rest new : List ℕ) → Leads d st.InQuoted [] true text st.InQuoted buf true rest → Nowhere (Passes (is_byte 34) rest) 0 (length rest) → new ≡ buf ++ rest
    → rows_from d st.InQuoted [] true text ≡ (record { text = new; is_quoted = true } ∷ []) ∷ []
quote_lacks d text buf rest new leads nowhere new_is =
    subst (λ (l : List ℕ). IsCut d st.InQuoted [] true text (record { text = l; is_quoted = true }) Nothing) (sym new_is)
    (cut_along d st.InQuoted [] true text st.InQuoted buf true rest (record { text = buf ++ rest; is_quoted = true }) Nothing leads (quoted_last d buf rest nowhere))

-- a text that begins with a quote
pub cut_in_quotes : (d : ℕ) (text rest : List ℕ) (f : Field) (o : Follows) → text ≡ 34 ∷ rest → IsCut d st.InQuoted [] true rest f o → IsCut d st.StartField [] false text f o
cut_in_quotes d text rest f o is cut =
    subst (λ (l : List ℕ). IsCut d st.StartField [] false l f o) (sym is) (cut_along d st.StartField [] false (34 ∷ rest) st.InQuoted [] true rest f o (starts_quoted d rest) cut)

-- ---- whether there are bytes

pub is_nil : (xs : List ℕ) (b : Bool) → b ≡ (length xs == 0) → b ≡ true → xs ≡ []
is_nil [] b is h = refl
is_nil (x ∷ xs) b is h = absurd (let e : length (x ∷ xs) ≡ 0 = eqb-true (length (x ∷ xs)) 0 (sym is ∙ h) in omega (arith, e))

pub not_nil : (xs : List ℕ) (b : Bool) → b ≡ (length xs == 0) → b ≡ false → xs ≢ []
not_nil [] b is h none = let e : true ≡ false = sym is ∙ h in cc
not_nil (x ∷ xs) b is h none = cc
