-- Where a line leads, seen by its quotes and its line feed.
use Rattle.std.proofs.Common.{◌≡◌, ◌≢◌, ◌≤◌, ◌<◌, ℕ, suc, List, [], ◌∷◌, ◌++◌, ◌==◌, ◌||◌, Bool, true, false, cond, refl, sym, ap, ◌∙◌, length, take, drop, get_or, arith, ◌-◌, append-nil, take_all, Option, None, Some}
use Rattle.std.proofs.lemmas.Bool.{eq-eqb, ne_eqb}
use Rattle.std.proofs.lemmas.Grind.{take_at_read}
use Rattle.std.proofs.lemmas.List.{get_or-take, length-take, take-append-drop}
use Rattle.std.specs.Option.{is_some}
use Rattle.csv.specs.Machine.{in_field, start_field, start_record, step}
use Rattle.csv.specs.declared.parser.Action.{Action}
use Rattle.csv.specs.declared.parser.Action.TheVariants as act
use Rattle.csv.specs.declared.parser.State.{State}
use Rattle.csv.specs.declared.parser.State.TheVariants as st
use Rattle.memchr.specs.Find.{IsFirstByte, NoneBefore, Nowhere, Passes, is_byte}
use Rattle.csv_records.specs.Rows.{config_of, state_after}
use Rattle.csv_records.specs.Records.{state_at}
use Rattle.csv_records.specs.declared.states.RecordState.{RecordState}
use Rattle.csv_records.specs.declared.states.RecordState.TheVariants as own

pub state_after-append : (d : ℕ) (s : State) (xs ys : List ℕ) → state_after d s (xs ++ ys) ≡ state_after d (state_after d s xs) ys
state_after-append d s [] ys = refl
state_after-append d s (x ∷ xs) ys = state_after-append d (step (config_of d) s x).0 xs ys

-- a state outside of quotes, without an escape and outside of comments
abbrev pub is_open : State → Bool
is_open st.StartRecord = true
is_open st.AfterCr = true
is_open st.StartField = true
is_open st.InField = true
is_open st.AfterQuote = true
is_open st.InQuoted = false
is_open st.InEscape = false
is_open st.InComment = false

abbrev Open : State × Action → Type 0
Open r = is_open r.0 ≡ true

field_open : (x t r : Bool) → Open (cond x (st.StartField, act.EndField) (cond t (cond r st.AfterCr st.StartRecord, act.EndRecord) (st.InField, act.Copy)))
field_open true t r = refl
field_open false true true = refl
field_open false true false = refl
field_open false false r = refl

in_field_open : (d c : ℕ) → Open (in_field (config_of d) c)
in_field_open d c = field_open (c == d) ((c == 13) || (c == 10)) (c == 13)

start_field_open : (d c : ℕ) → c ≢ 34 → Open (start_field (config_of d) c)
start_field_open d c other = rw (ne_eqb c 34 other) (in_field_open d c)

choose_open : (b : Bool) (x y : State × Action) → Open x → Open y → Open (cond b x y)
choose_open true x y p q = p
choose_open false x y p q = q

start_record_open : (d c : ℕ) → c ≢ 34 → Open (start_record (config_of d) c)
start_record_open d c other = choose_open ((c == 13) || (c == 10)) (st.StartRecord, act.Skip) (start_field (config_of d) c) refl (start_field_open d c other)

open_step : (d : ℕ) (s : State) (c : ℕ) → is_open s ≡ true → c ≢ 34 → Open (step (config_of d) s c)
open_step d st.StartRecord c h other = start_record_open d c other
open_step d st.AfterCr c h other = choose_open (c == 10) (st.StartRecord, act.Skip) (start_record (config_of d) c) refl (start_record_open d c other)
open_step d st.StartField c h other = start_field_open d c other
open_step d st.InField c h other = in_field_open d c
open_step d st.AfterQuote c h other = rw (ne_eqb c 34 other) (in_field_open d c)
open_step d st.InQuoted c h other = absurd cc
open_step d st.InEscape c h other = absurd cc
open_step d st.InComment c h other = absurd cc

feed_step : (d : ℕ) (s : State) → is_open s ≡ true → d ≢ 10 → (step (config_of d) s 10).0 ≡ st.StartRecord
feed_step d st.StartRecord h other = refl
feed_step d st.AfterCr h other = refl
feed_step d st.StartField h other = rw (ne_eqb 10 d (λ e. other (sym e))) refl
feed_step d st.InField h other = rw (ne_eqb 10 d (λ e. other (sym e))) refl
feed_step d st.AfterQuote h other = rw (ne_eqb 10 d (λ e. other (sym e))) refl
feed_step d st.InQuoted h other = absurd cc
feed_step d st.InEscape h other = absurd cc
feed_step d st.InComment h other = absurd cc

pub plain_leads : (d : ℕ) (s : State) (front : List ℕ) → is_open s ≡ true → d ≢ 10 → ((k : ℕ) → k < length front → get_or front k 0 ≢ 34) → state_after d s (front ++ 10 ∷ []) ≡ st.StartRecord
plain_leads d s [] h other plain = feed_step d s h other
plain_leads d s (c ∷ front) h other plain =
    plain_leads d (step (config_of d) s c).0 front (open_step d s c h (plain 0 (omega arith))) other (λ k below. plain (suc k) (omega arith))

-- inside of quotes nothing happens up to the next quote
stays_step : (d c : ℕ) → c ≢ 34 → (step (config_of d) st.InQuoted c).0 ≡ st.InQuoted
stays_step d c other = rw (ne_eqb c 34 other) refl

pub stays : (d : ℕ) (front rest : List ℕ) → ((k : ℕ) → k < length front → get_or front k 0 ≢ 34) → state_after d st.InQuoted (front ++ rest) ≡ state_after d st.InQuoted rest
stays d [] rest plain = refl
stays d (c ∷ front) rest plain =
    ap (λ (s : State). state_after d s (front ++ rest)) (stays_step d c (plain 0 (omega arith))) ∙ stays d front rest (λ k below. plain (suc k) (omega arith))

-- a state outside of quotes
pub state_open : (p : RecordState) → p ≢ own.InQuoted → is_open (state_at p) ≡ true
state_open own.StartRecord h = refl
state_open own.AfterCr h = refl
state_open own.StartField h = refl
state_open own.InField h = refl
state_open own.AfterQuote h = refl
state_open own.InQuoted h = absurd (h refl)

no_quote : (xs : List ℕ) → Nowhere (Passes (is_byte 34) xs) 0 (length xs) → (k : ℕ) → k < length xs → get_or xs k 0 ≢ 34
no_quote xs h k below e = h k (omega arith) below (eq-eqb (get_or xs k 0) 34 e)

pub after_plain_line : (d : ℕ) (p : RecordState) (line : List ℕ) (r : Option ℕ) → p ≢ own.InQuoted → d ≢ 10 → 1 ≤ length line → get_or line (length line - 1) 0 ≡ 10 → is_some r ≡ false → IsFirstByte (is_byte 34) (take (length line - 1) line) r → state_after d (state_at p) line ≡ st.StartRecord
after_plain_line d p line (Some i) outside other some last none first = absurd cc
after_plain_line d p line None outside other some last none first =
    let front = take (length line - 1) line in
    let whole : line ≡ front ++ 10 ∷ [] =
    sym (take_all (length line) line (omega arith)) ∙ ap (λ n. take n line) (omega arith) ∙ (take_at_read line (length line - 1) 0 (omega arith)).1 ∙ ap (λ b. front ++ b ∷ []) last in
    ap (state_after d (state_at p)) whole ∙ plain_leads d (state_at p) front (state_open p outside) other (no_quote front first)

-- up to the next quote
pub at_next_quote : (d quote : ℕ) (bytes : List ℕ) → NoneBefore (Passes (is_byte 34) bytes) 0 (length bytes) quote → state_after d st.InQuoted bytes ≡ state_after d st.InQuoted (drop quote bytes)
at_next_quote d quote bytes first =
    ap (state_after d st.InQuoted) (sym (take-append-drop quote bytes)) ∙ stays d (take quote bytes) (drop quote bytes) (λ k below e. first.before k (omega arith) (omega (arith, length-take quote bytes)) (eq-eqb (get_or bytes k 0) 34 (sym (get_or-take quote bytes k 0 (omega (arith, length-take quote bytes))) ∙ e)))

-- no quote follows
pub no_next_quote : (d : ℕ) (bytes : List ℕ) → Nowhere (Passes (is_byte 34) bytes) 0 (length bytes) → state_after d st.InQuoted bytes ≡ st.InQuoted
no_next_quote d bytes nowhere =
    ap (state_after d st.InQuoted) (sym (append-nil bytes)) ∙ stays d bytes [] (no_quote bytes nowhere)
