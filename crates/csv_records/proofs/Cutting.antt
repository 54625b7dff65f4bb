-- Records, line by line.
use Rattle.std.proofs.Common.{◌≡◌, ◌≢◌, ◌≤◌, ◌<◌, ◌+◌, ◌-◌, ℕ, suc, List, [], ◌∷◌, ◌++◌, ◌==◌, ◌&&◌, ◌||◌, Bool, true, false, Option, None, Some, refl, sym, ap, ◌∙◌, subst, length, take, drop, get_or, arith, add-one, append_assoc, append-nil, drop-cons, take_all}
use Rattle.std.proofs.lemmas.Bool.{eq-eqb, eqb-true, ne_eqb}
use Rattle.std.proofs.lemmas.Grind.{take_at_read}
use Rattle.std.proofs.lemmas.List.{drop_all, drop-drop, get_or-take, length-take, length-drop, take-append-drop, take_rest}
use lib.Seq.{take-add}
use Rattle.std.specs.List.{onto_first}
use Rattle.csv.specs.Machine.{step}
use Rattle.csv.specs.declared.parser.State.{State}
use Rattle.csv.specs.declared.parser.State.TheVariants as st
use Rattle.memchr.specs.Find.{NoneBefore, Nowhere, Passes, is_byte, is_byte2}
use Rattle.csv_records.specs.Lemmas.RecordLaws.{EndsRecord}
use Rattle.csv_records.specs.Records.{is_start, records_from, records_of, state_at}
use Rattle.csv_records.specs.Rows.{config_of, rows_of, state_after}
use Rattle.csv_records.specs.declared.states.RecordState.{RecordState}
use Rattle.csv_records.specs.declared.states.RecordState.TheVariants as own
use Rattle.csv_records.proofs.RowCuts.{rows_are_cut}
use Rattle.csv_records.proofs.Walking.{plain_leads, state_after-append}

-- bytes before the first of the parts
abbrev pub onto_all : List ℕ → List (List ℕ) → List (List ℕ)
onto_all [] parts = parts
onto_all (x ∷ xs) parts = onto_first x (onto_all xs parts)

onto_all-append : (xs ys : List ℕ) (parts : List (List ℕ)) → onto_all (xs ++ ys) parts ≡ onto_all xs (onto_all ys parts)
onto_all-append [] ys parts = refl
onto_all-append (x ∷ xs) ys parts = ap (onto_first x) (onto_all-append xs ys parts)

onto_part : (xs part : List ℕ) (parts : List (List ℕ)) → onto_all xs (part ∷ parts) ≡ (xs ++ part) ∷ parts
onto_part [] part parts = refl
onto_part (x ∷ xs) part parts = ap (onto_first x) (onto_part xs part parts)

onto_none : (xs : List ℕ) → 0 < length xs → onto_all xs [] ≡ xs ∷ []
onto_none [] some = absurd (omega arith)
onto_none (x ∷ []) some = refl
onto_none (x ∷ y ∷ xs) some = ap (onto_first x) (onto_none (y ∷ xs) (omega arith))

abbrev Plain : List ℕ → Type 0
Plain xs = (k : ℕ) → k < length xs → get_or xs k 0 ≢ 10

plain_rest : (x : ℕ) (xs : List ℕ) → Plain (x ∷ xs) → Plain xs
plain_rest x xs h k below = h (suc k) (omega arith)

-- a line after which a record may start
line_ends : (d : ℕ) (s : State) (front ys : List ℕ) → Plain front → is_start (state_after d s (front ++ 10 ∷ [])) ≡ true → records_from d s (front ++ 10 ∷ ys) ≡ (front ++ 10 ∷ []) ∷ records_of d ys
line_ends d s [] ys plain e = rw e refl
line_ends d s (x ∷ front) ys plain e =
    rw (ne_eqb x 10 (plain 0 (omega arith))) (ap (onto_first x) (line_ends d (step (config_of d) s x).0 front ys (plain_rest x front plain) e))

-- a line after which none may start
line_goes_on : (d : ℕ) (s : State) (front ys : List ℕ) → Plain front → is_start (state_after d s (front ++ 10 ∷ [])) ≡ false
    → records_from d s (front ++ 10 ∷ ys) ≡ onto_all (front ++ 10 ∷ []) (records_from d (state_after d s (front ++ 10 ∷ [])) ys)
line_goes_on d s [] ys plain e = rw e refl
line_goes_on d s (x ∷ front) ys plain e =
    rw (ne_eqb x 10 (plain 0 (omega arith))) (ap (onto_first x) (line_goes_on d (step (config_of d) s x).0 front ys (plain_rest x front plain) e))

-- bytes without a line feed
no_feed : (d : ℕ) (s : State) (xs : List ℕ) → Plain xs → records_from d s xs ≡ onto_all xs []
no_feed d s [] plain = refl
no_feed d s (x ∷ xs) plain =
    rw (ne_eqb x 10 (plain 0 (omega arith))) (ap (onto_first x) (no_feed d (step (config_of d) s x).0 xs (plain_rest x xs plain)))

-- the bytes before an offset belong to the first record, and lead to this state
pub record Passed (d : ℕ) (text : List ℕ) (end : ℕ) (s : State) : Type 0 where
  pub within : end ≤ length text
  pub records : records_of d text ≡ onto_all (take end text) (records_from d s (drop end text))
  pub state : state_after d st.StartRecord (take end text) ≡ s

pub passed_none : (d : ℕ) (text : List ℕ) → Passed d text 0 st.StartRecord
passed_none d text = record { within = omega arith; records = refl; state = refl }

-- the next line feed, and the bytes around it
record IsLine (text : List ℕ) (end feed : ℕ) : Type 0 where
  within : end + feed + 1 ≤ length text
  plain : Plain (take feed (drop end text))
  line : take (feed + 1) (drop end text) ≡ take feed (drop end text) ++ 10 ∷ []
  rest : drop end text ≡ take feed (drop end text) ++ 10 ∷ drop (end + feed + 1) text
  before : take (end + feed + 1) text ≡ take end text ++ take (feed + 1) (drop end text)

pub record IsNextFeed (text : List ℕ) (end feed : ℕ) : Type 0 where
  pub found : NoneBefore (Passes (is_byte 10) (drop end text)) 0 (length (drop end text)) feed × Passes (is_byte 10) (drop end text) feed

is_line : (text : List ℕ) (end feed : ℕ) → end ≤ length text → IsNextFeed text end feed → IsLine text end feed
is_line text end feed within next =
    let xs = drop end text in
    let inside : feed < length xs = next.found.0.high in
    let long = length-take feed xs in
    let ten : get_or xs feed 0 ≡ 10 = eqb-true _ _ next.found.1 in
    let line : take (feed + 1) xs ≡ take feed xs ++ 10 ∷ [] = (take_at_read xs feed 0 inside).1 ∙ ap (λ b. take feed xs ++ b ∷ []) ten in
    let back : drop (feed + 1) xs ≡ drop (end + feed + 1) text = drop-drop (feed + 1) end text ∙ ap (λ n. drop n text) (omega arith) in
    record {
      within = omega (arith, length-drop end text);
      plain = λ k below e. next.found.0.before k (omega arith) (omega arith) (eq-eqb (get_or xs k 0) 10 (sym (get_or-take feed xs k 0 (omega arith)) ∙ e));
      line = line;
      rest = sym (take-append-drop (feed + 1) xs) ∙ ap (λ (l : List ℕ). l ++ drop (feed + 1) xs) line ∙ append_assoc (take feed xs) (10 ∷ []) (drop (feed + 1) xs) ∙ ap (λ (l : List ℕ). take feed xs ++ 10 ∷ l) back;
      before = ap (λ n. take n text) (omega arith) ∙ take-add end (feed + 1) text;
    }

state_next : (d : ℕ) (text : List ℕ) (end feed : ℕ) (s : State) → IsLine text end feed → Passed d text end s
    → state_after d st.StartRecord (take (end + feed + 1) text) ≡ state_after d s (take (feed + 1) (drop end text))
state_next d text end feed s line h =
    ap (state_after d st.StartRecord) line.before ∙ state_after-append d st.StartRecord (take end text) (take (feed + 1) (drop end text))
    ∙ ap (λ (r : State). state_after d r (take (feed + 1) (drop end text))) h.state

no_start_at : (p : RecordState) → p ≢ own.StartRecord → is_start (state_at p) ≡ false
no_start_at own.StartRecord h = absurd (h refl)
no_start_at own.AfterCr h = refl
no_start_at own.StartField h = refl
no_start_at own.InField h = refl
no_start_at own.InQuoted h = refl
no_start_at own.AfterQuote h = refl

-- a line more
pub goes_on : (d : ℕ) (text line : List ℕ) (end feed : ℕ) (old new : RecordState) → IsNextFeed text end feed → line ≡ take (feed + 1) (drop end text) → state_at new ≡ state_after d (state_at old) line → new ≢ own.StartRecord
    → Passed d text end (state_at old) → Passed d text (end + feed + 1) (state_at new)
goes_on d text line end feed old new next same leads other h =
    let l = is_line text end feed h.within next in
    let xs = drop end text in
    let front = take feed xs in
    let leads_to : state_at new ≡ state_after d (state_at old) (front ++ 10 ∷ []) = leads ∙ ap (state_after d (state_at old)) (same ∙ l.line) in
    let no_start : is_start (state_after d (state_at old) (front ++ 10 ∷ [])) ≡ false = ap is_start (sym leads_to) ∙ no_start_at new other in
    let one : records_from d (state_at old) xs ≡ onto_all (front ++ 10 ∷ []) (records_from d (state_at new) (drop (end + feed + 1) text)) =
    ap (records_from d (state_at old)) l.rest ∙ line_goes_on d (state_at old) front (drop (end + feed + 1) text) l.plain no_start
    ∙ ap (λ (r : State). onto_all (front ++ 10 ∷ []) (records_from d r (drop (end + feed + 1) text))) (sym leads_to) in
    record {
      within = l.within;
      records = h.records ∙ ap (onto_all (take end text)) one ∙ sym (onto_all-append (take end text) (front ++ 10 ∷ []) (records_from d (state_at new) (drop (end + feed + 1) text)))
          ∙ ap (λ (p : List ℕ). onto_all p (records_from d (state_at new) (drop (end + feed + 1) text))) (sym (l.before ∙ ap (λ (p : List ℕ). take end text ++ p) l.line));
      state = state_next d text end feed (state_at old) l h ∙ ap (state_after d (state_at old)) (sym same) ∙ sym leads;
    }

-- the last line of a record
pub record Ended (d : ℕ) (text : List ℕ) (end : ℕ) : Type 0 where
  pub within : (0 < end) × (end ≤ length text)
  pub cut : records_of d text ≡ take end text ∷ records_of d (drop end text)
  pub rows : rows_of d text ≡ rows_of d (take end text) ++ rows_of d (drop end text)

pub ended : (d : ℕ) (text line : List ℕ) (end feed : ℕ) (old new : RecordState) → IsNextFeed text end feed → line ≡ take (feed + 1) (drop end text) → state_at new ≡ state_after d (state_at old) line → new ≡ own.StartRecord
    → Passed d text end (state_at old) → Ended d text (end + feed + 1)
ended d text line end feed old new next same leads fresh h =
    let l = is_line text end feed h.within next in
    let n = end + feed + 1 in
    let xs = drop end text in
    let front = take feed xs in
    let leads_to : state_after d (state_at old) (take (feed + 1) xs) ≡ st.StartRecord = ap (state_after d (state_at old)) (sym same) ∙ sym leads ∙ ap state_at fresh in
    let start : is_start (state_after d (state_at old) (front ++ 10 ∷ [])) ≡ true = ap (λ (p : List ℕ). is_start (state_after d (state_at old) p)) (sym l.line) ∙ ap is_start leads_to in
    let one : records_from d (state_at old) xs ≡ (front ++ 10 ∷ []) ∷ records_of d (drop n text) = ap (records_from d (state_at old)) l.rest ∙ line_ends d (state_at old) front (drop n text) l.plain start in
    record {
      within = (omega arith, l.within);
      cut = h.records ∙ ap (onto_all (take end text)) one ∙ onto_part (take end text) (front ++ 10 ∷ []) (records_of d (drop n text))
          ∙ ap (λ (p : List ℕ). p ∷ records_of d (drop n text)) (sym (l.before ∙ ap (λ (p : List ℕ). take end text ++ p) l.line));
      rows = ap (rows_of d) (sym (take-append-drop n text)) ∙ rows_are_cut d (take n text) (drop n text) (state_next d text end feed (state_at old) l h ∙ leads_to);
    }

-- no line feed follows
pub only : (d : ℕ) (text : List ℕ) (end : ℕ) (s : State) → Nowhere (Passes (is_byte 10) (drop end text)) 0 (length (drop end text)) → 0 < length text → Passed d text end s → records_of d text ≡ text ∷ []
only d text end s nowhere some h =
    let xs = drop end text in
    h.records ∙ ap (onto_all (take end text)) (no_feed d s xs (λ k below e. nowhere k (omega arith) below (eq-eqb (get_or xs k 0) 10 e)))
    ∙ sym (onto_all-append (take end text) xs []) ∙ ap (λ (l : List ℕ). onto_all l []) (take-append-drop end text) ∙ onto_none text some

abbrev FoundIn : List ℕ → ℕ → Type 0
FoundIn xs feed = NoneBefore (Passes (is_byte 10) xs) 0 (length xs) feed × Passes (is_byte 10) xs feed

pub next_feed : (text : List ℕ) (end feed : ℕ) → FoundIn (take (length text - end) (drop end text)) feed → IsNextFeed text end feed
next_feed text end feed h = record { found = subst (λ (xs : List ℕ). FoundIn xs feed) (take_rest text end) h }

pub only_rest : (d : ℕ) (text xs : List ℕ) (end : ℕ) (s : State) → xs ≡ drop end text → Nowhere (Passes (is_byte 10) xs) 0 (length xs) → Passed d text end s → 0 < length text → records_of d text ≡ text ∷ []
only_rest d text xs end s same nowhere h some =
    only d text end s (subst (λ (ys : List ℕ). Nowhere (Passes (is_byte 10) ys) 0 (length ys)) same nowhere) some h

or_first : (a b : Bool) → a ≡ true → (a || b) ≡ true
or_first true b e = refl
or_first false b e = absurd cc

or_second : (a b : Bool) → b ≡ true → (a || b) ≡ true
or_second true b e = refl
or_second false b e = e

-- a line without a quote, and where it leads
plain_line : (d : ℕ) (text : List ℕ) (place : ℕ) → d ≢ 10 → NoneBefore (Passes (is_byte2 10 34) text) 0 (length text) place → get_or text place 0 ≡ 10
    → (take (place + 1) text ≡ take place text ++ 10 ∷ []) × (state_after d st.StartRecord (take (place + 1) text) ≡ st.StartRecord)
plain_line d text place other first feed =
    let front = take place text in
    let long = length-take place text in
    let whole : take (place + 1) text ≡ front ++ 10 ∷ [] = (take_at_read text place 0 first.high).1 ∙ ap (λ b. front ++ b ∷ []) feed in
    let quotes : (k : ℕ) → k < length front → get_or front k 0 ≢ 34 = λ k below e. first.before k (omega arith) (omega (arith, first.high, long, below))
    (or_second (get_or text k 0 == 10) (get_or text k 0 == 34) (eq-eqb (get_or text k 0) 34 (sym (get_or-take place text k 0 (omega (arith, first.high, long, below))) ∙ e))) in
    (whole, ap (state_after d st.StartRecord) whole ∙ plain_leads d st.StartRecord front refl other quotes)

pub plain_ends : (d : ℕ) (text : List ℕ) (place end : ℕ) → d ≢ 10 → end ≡ place + 1 → NoneBefore (Passes (is_byte2 10 34) text) 0 (length text) place → get_or text place 0 ≡ 10 → EndsRecord d (take end text)
plain_ends d text place end other is first feed =
    let line = plain_line d text place other first feed in
    subst (λ (n : ℕ). EndsRecord d (take n text)) (sym is) (record { front = take place text; is = line.0; start = line.1 })

-- the first line ends the record if it has no quote
pub plain_ended : (d : ℕ) (text : List ℕ) (place end : ℕ) → d ≢ 10 → end ≡ place + 1 → NoneBefore (Passes (is_byte2 10 34) text) 0 (length text) place → get_or text place 0 ≡ 10 → Ended d text end
plain_ended d text place end other is first feed =
    let inside : place < length text = first.high in
    let leads : st.StartRecord ≡ state_after d st.StartRecord (take (place + 1) text) = sym (plain_line d text place other first feed).1 in
    let next : IsNextFeed text 0 place = record {
      found = (
        record { low = omega arith; high = inside; before = λ k low below p. first.before k low below (or_first (get_or text k 0 == 10) (get_or text k 0 == 34) p) },
        eq-eqb (get_or text place 0) 10 feed,
      );
    } in
    let same : 0 + place + 1 ≡ end = omega (arith, is) in
    subst (Ended d text) same (ended d text (take (place + 1) text) 0 place own.StartRecord own.StartRecord next refl leads refl (passed_none d text))

pub ruleset cutting = (take_all, append-nil, take_rest, take-append-drop)
