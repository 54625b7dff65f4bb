-- Records that were judged, one after another.
use Rattle.std.proofs.Common.{◌≡◌, ◌≢◌, ◌<◌, ◌≤◌, ◌+◌, ◌-◌, ◌^◌, ◌==◌, ◌&&◌, inl, inr, min, ℕ, List, [], ◌∷◌, ◌++◌, Bool, true, false, Option, Some, refl, sym, ap, ap₂, ◌∙◌, subst, length, take, drop, drop-drop, arith, append_assoc, append-nil, add-zero}
use Rattle.std.proofs.lemmas.List.{length-append}
use Rattle.std.proofs.lemmas.List.Folds.{concat-append}
use Rattle.std.specs.List.{AllByRecursion, concat, onto_first}
use Rattle.std.specs.Prelude.{if◌then◌else◌, option_map}
use Rattle.csv.specs.Machine.{step}
use Rattle.csv.specs.declared.parser.State.{State}
use Rattle.csv.specs.declared.parser.State.TheVariants as st
use Rattle.csv_records.specs.Lemmas.RecordLaws.{concat-records_of}
use Rattle.csv_records.specs.Records.{is_start, records_from, records_of}
use Rattle.csv_records.specs.Rows.{config_of}
use Rattle.zone_index.specs.Errors.{IfRefused, TellsOffset, TellsOneOf, TellsRecord, before_refused}
use Rattle.zone_index.specs.Sinks.{told}
use Rattle.zone_index.specs.declared.errors.Cause.{Cause}
use Rattle.zone_index.specs.declared.errors.SearchError.{SearchError}
use Rattle.zone_index.specs.declared.errors.SearchError.TheVariants as errors
use Rattle.zone_index.specs.declared.zones.Position.{Position}
use Rattle.zone_scans.specs.Found.{IsJudged, IsRefusedNext, IsSearched, found_at, found_of, position_after}
use Rattle.zone_scans.specs.declared.finding.FoundRecord.{FoundRecord}
use Rattle.zone_scans.specs.declared.finding.Searched.{Searched}

pub concat_long : (xs ys : List (List ℕ)) → length (concat (xs ++ ys)) ≡ length (concat xs) + length (concat ys)
concat_long xs ys = ap length (concat-append xs ys) ∙ length-append (concat xs) (concat ys)

pub found-append : (matches : List ℕ → Bool) (place number : ℕ) (xs ys : List (List ℕ)) → found_of matches place number (xs ++ ys) ≡ found_of matches place number xs ++ found_of matches (place + length (concat xs)) (number + length xs) ys
found-append matches place number [] ys =
    ap₂ (λ (p n : ℕ). found_of matches p n ys) (sym (add-zero place)) (sym (add-zero number))
found-append matches place number (x ∷ xs) ys =
    let here : List FoundRecord = if matches x then found_at (told place) (told number) x ∷ [] else [] in
    let at : place + length x + length (concat xs) ≡ place + length (concat (x ∷ xs)) = omega (arith, length-append x (concat xs)) in
    let behind : number + 1 + length xs ≡ number + length (x ∷ xs) = omega arith in
    ap (λ (l : List FoundRecord). here ++ l) (found-append matches (place + length x) (number + 1) xs ys)
    ∙ sym (append_assoc here (found_of matches (place + length x) (number + 1) xs) (found_of matches (place + length x + length (concat xs)) (number + 1 + length xs) ys))
    ∙ ap₂ (λ (p n : ℕ). (here ++ found_of matches (place + length x) (number + 1) xs) ++ found_of matches p n ys) at behind

-- places and numbers that are told as the same
pub found_told : (matches : List ℕ → Bool) (p q m n : ℕ) (lines : List (List ℕ)) → told p ≡ told q → told m ≡ told n → found_of matches p m lines ≡ found_of matches q n lines
found_told matches p q m n [] at e = refl
found_told matches p q m n (line ∷ lines) at e =
    let place : told (p + length line) ≡ told (q + length line) = omega (arith, at) in
    let number : told (m + 1) ≡ told (n + 1) = omega (arith, e) in
    ap₂ (λ (a b : List FoundRecord). a ++ b) (ap₂ (λ (a b : ℕ). if matches line then found_at a b line ∷ [] else []) at e) (found_told matches (p + length line) (q + length line) (m + 1) (n + 1) lines place number)

-- ---- a record behind which something stands ends for certain

heads : (x y : List ℕ) (xs ys : List (List ℕ)) → x ∷ xs ≡ y ∷ ys → (x ≡ y) × (xs ≡ ys)
heads x y xs ys e = (cc, cc)

tails : (c : ℕ) (xs ys : List ℕ) → c ∷ xs ≡ c ∷ ys → xs ≡ ys
tails c xs ys e = cc

onto_nil : (c : ℕ) (parts ys : List (List ℕ)) → onto_first c parts ≡ [] ∷ ys → ⊥
onto_nil c [] ys e = cc
onto_nil c (part ∷ parts) ys e = cc

never_nil : (d : ℕ) (s : State) (c : ℕ) (rest : List ℕ) (ys : List (List ℕ)) (t : Bool) → ((c == 10) && is_start (step (config_of d) s c).0) ≡ t → records_from d s (c ∷ rest) ≡ [] ∷ ys → ⊥
never_nil d s c rest ys true e h =
    let opened : (c ∷ []) ∷ records_from d st.StartRecord rest ≡ [] ∷ ys = rw e at h in
    cc
never_nil d s c rest ys false e h = onto_nil c (records_from d (step (config_of d) s c).0 rest) ys (rw e at h)

unput : (c : ℕ) (parts : List (List ℕ)) (line : List ℕ) (others : List (List ℕ)) → others ≢ [] → onto_first c parts ≡ (c ∷ line) ∷ others → parts ≡ line ∷ others
unput c [] line others some e = absurd (some (sym (heads (c ∷ []) (c ∷ line) [] others e).1))
unput c (part ∷ parts) line others some e =
    let h = heads (c ∷ part) (c ∷ line) parts others e in
    ap₂ (λ (x : List ℕ) (xs : List (List ℕ)). x ∷ xs) (tails c part line h.0) h.1

has_some : (d : ℕ) (after : List ℕ) → after ≢ [] → records_of d after ≢ []
has_some d after some none = some (sym (concat-records_of d after) ∙ ap concat none)

ends_step : (d : ℕ) (s : State) (c : ℕ) (line after more : List ℕ) (t : Bool) → ((c == 10) && is_start (step (config_of d) s c).0) ≡ t → after ≢ []
    → (records_from d (step (config_of d) s c).0 (line ++ after) ≡ line ∷ records_of d after → records_from d (step (config_of d) s c).0 (line ++ more) ≡ line ∷ records_of d more)
    → records_from d s (c ∷ line ++ after) ≡ (c ∷ line) ∷ records_of d after → records_from d s (c ∷ line ++ more) ≡ (c ∷ line) ∷ records_of d more
ends_step d s c line after more true e some later h =
    let opened : (c ∷ []) ∷ records_from d st.StartRecord (line ++ after) ≡ (c ∷ line) ∷ records_of d after = rw e at h in
    let none : [] ≡ line = tails c [] line (heads (c ∷ []) (c ∷ line) (records_from d st.StartRecord (line ++ after)) (records_of d after) opened).0 in
    rw e (ap₂ (λ (x y : List ℕ). (c ∷ x) ∷ records_of d (y ++ more)) none (sym none))
ends_step d s c line after more false e some later h =
    let opened : onto_first c (records_from d (step (config_of d) s c).0 (line ++ after)) ≡ (c ∷ line) ∷ records_of d after = rw e at h in
    rw e (ap (onto_first c) (later (unput c (records_from d (step (config_of d) s c).0 (line ++ after)) line (records_of d after) (has_some d after some) opened)))

ends_from : (d : ℕ) (s : State) (line after more : List ℕ) → after ≢ [] → records_from d s (line ++ after) ≡ line ∷ records_of d after → records_from d s (line ++ more) ≡ line ∷ records_of d more
ends_from d s [] [] more some h = absurd (some refl)
ends_from d s [] (c ∷ after) more some h = absurd (never_nil d s c after (records_of d (c ∷ after)) ((c == 10) && is_start (step (config_of d) s c).0) refl h)
ends_from d s (c ∷ line) after more some h =
    ends_step d s c line after more ((c == 10) && is_start (step (config_of d) s c).0) refl some (ends_from d (step (config_of d) s c).0 line after more some) h

cut_stays : (d : ℕ) (line after rest behind : List ℕ) → records_of d rest ≡ line ∷ records_of d after → rest ≡ line ++ after → after ≢ [] → records_of d (rest ++ behind) ≡ line ∷ records_of d (after ++ behind)
cut_stays d line after rest behind own parts some =
    ap (records_of d) (ap (λ (l : List ℕ). l ++ behind) parts ∙ append_assoc line after behind)
    ∙ ends_from d st.StartRecord line after (after ++ behind) some (ap (records_of d) (sym parts) ∙ own)

all_passed : (R : List ℕ → Bool) (xs : List (List ℕ)) (line : List ℕ) → AllByRecursion (λ x. R x ≡ false) xs → R line ≡ false → AllByRecursion (λ x. R x ≡ false) (xs ++ line ∷ [])
all_passed R [] line h one = (one, tt)
all_passed R (x ∷ xs) line h one = (h.0, all_passed R xs line h.1 one)

pub judged_none : (d : ℕ) (matches R : List ℕ → Bool) (start : Position) (text : List ℕ) (is_end : Bool) (into : List FoundRecord) → start.place < 2 ^ 64 → start.number < 2 ^ 64 → IsJudged d matches R start text is_end text into 0 start
judged_none d matches R start text is_end into near few =
    let place : start.place ≡ told (start.place + 0) = omega (arith, near) in
    let number : start.number ≡ told (start.number + 0) = omega (arith, few) in
    record { judged = []; records = refl; certain = λ unended more. refl; bytes = refl; found = refl; passed = tt; place = place; number = number }

-- a record more
pub judged_more : (d e : ℕ) (matches R : List ℕ → Bool) (start : Position) (text : List ℕ) (is_end : Bool) (rest line after : List ℕ) (old new : List FoundRecord) (count more : ℕ) (here next : Position) (t : Bool) → IsJudged d matches R start text is_end rest old count here → e ≡ d → records_of e rest ≡ line ∷ records_of e after → rest ≡ line ++ after → (is_end ≡ false → after ≢ [])
    → t ≡ matches line → R line ≡ false → take more new ≡ take count old ++ (if t then found_at here.place here.number line ∷ [] else []) → next ≡ position_after here line → IsJudged d matches R start text is_end after new more next
judged_more d e matches R start text is_end rest line after old new count more here next t h by cut parts goes_on hit passes put next_is =
    let own : records_of d rest ≡ line ∷ records_of d after = subst (λ (n : ℕ). records_of n rest ≡ line ∷ records_of n after) by cut in
    let one : length (concat (line ∷ [])) ≡ length line = ap length (append-nil line) in
    let all : length (concat (h.judged ++ line ∷ [])) ≡ length (concat h.judged) + length line = concat_long h.judged (line ∷ []) ∙ ap (λ (n : ℕ). length (concat h.judged) + n) one in
    let many : length (h.judged ++ line ∷ []) ≡ length h.judged + 1 = length-append h.judged (line ∷ []) in
    let place_is : next.place ≡ told (here.place + length line) = ap (λ (p : Position). p.place) next_is in
    let number_is : next.number ≡ told (here.number + 1) = ap (λ (p : Position). p.number) next_is in
    let place_now : next.place ≡ told (start.place + length (concat (h.judged ++ line ∷ []))) = omega (arith, place_is, h.place, all) in
    let number_now : next.number ≡ told (start.number + length (h.judged ++ line ∷ [])) = omega (arith, number_is, h.number, many) in
    let found_here : (if t then found_at here.place here.number line ∷ [] else []) ≡ found_of matches (start.place + length (concat h.judged)) (start.number + length h.judged) (line ∷ []) =
    ap (λ (b : Bool). if b then found_at here.place here.number line ∷ [] else []) hit
    ∙ ap₂ (λ (a b : ℕ). if matches line then found_at a b line ∷ [] else []) h.place h.number
    ∙ sym (append-nil (if matches line then found_at (told (start.place + length (concat h.judged))) (told (start.number + length h.judged)) line ∷ [] else [])) in
    record {
      judged = h.judged ++ line ∷ [];
      records = h.records ∙ ap (λ (l : List (List ℕ)). h.judged ++ l) own ∙ sym (append_assoc h.judged (line ∷ []) (records_of d after));
      certain = λ unended behind. h.certain unended behind ∙ ap (λ (l : List (List ℕ)). h.judged ++ l) (cut_stays d line after rest behind own parts (goes_on unended)) ∙ sym (append_assoc h.judged (line ∷ []) (records_of d (after ++ behind)));
      bytes = h.bytes ∙ ap (λ (l : List ℕ). concat h.judged ++ l) (parts ∙ ap (λ (l : List ℕ). l ++ after) (sym (append-nil line))) ∙ sym (append_assoc (concat h.judged) (concat (line ∷ [])) after) ∙ ap (λ (l : List ℕ). l ++ after) (sym (concat-append h.judged (line ∷ [])));
      found = put ∙ ap (λ (l : List FoundRecord). l ++ (if t then found_at here.place here.number line ∷ [] else [])) h.found
          ∙ ap (λ (l : List FoundRecord). found_of matches start.place start.number h.judged ++ l) found_here ∙ sym (found-append matches start.place start.number h.judged (line ∷ []));
      passed = all_passed R h.judged line h.passed passes;
      place = place_now;
      number = number_now;
    }

-- all were judged
pub searched_all : (d : ℕ) (matches R : List ℕ → Bool) (start : Position) (text : List ℕ) (is_end : Bool) (rest : List ℕ) (into : List FoundRecord) (s : Searched) → IsJudged d matches R start text is_end rest into s.count s.next → rest ≡ [] → IsSearched d matches R start text is_end into s
searched_all d matches R start text is_end rest into s h none = record { rest = rest; judged = h; stop = inl none }

-- one more matches
pub searched_full : (d e : ℕ) (matches R : List ℕ → Bool) (start : Position) (text : List ℕ) (is_end : Bool) (rest line after : List ℕ) (into : List FoundRecord) (s : Searched) → IsJudged d matches R start text is_end rest into s.count s.next → e ≡ d → records_of e rest ≡ line ∷ records_of e after → matches line ≡ true → s.count ≡ length into
    → IsSearched d matches R start text is_end into s
searched_full d e matches R start text is_end rest line after into s h by cut hit full =
    let own : records_of d rest ≡ line ∷ records_of d after = subst (λ (n : ℕ). records_of n rest ≡ line ∷ records_of n after) by cut in
    record { rest = rest; judged = h; stop = inr (inl (full, record { line = line; others = records_of d after; next = own; hit = hit })) }

-- one more may be cut
pub searched_cut : (d e : ℕ) (matches R : List ℕ → Bool) (start : Position) (text : List ℕ) (is_end : Bool) (rest line after : List ℕ) (into : List FoundRecord) (s : Searched) → IsJudged d matches R start text is_end rest into s.count s.next → e ≡ d → records_of e rest ≡ line ∷ records_of e after → rest ≡ line ++ after → (is_end ≡ false) × (after ≡ [])
    → IsSearched d matches R start text is_end into s
searched_cut d e matches R start text is_end rest line after into s h by cut parts cut_off =
    let own : records_of d rest ≡ line ∷ records_of d after = subst (λ (n : ℕ). records_of n rest ≡ line ∷ records_of n after) by cut in
    let whole : line ≡ rest = sym (append-nil line) ∙ ap (λ (l : List ℕ). line ++ l) (sym cut_off.1) ∙ sym parts in
    let last : records_of d rest ≡ rest ∷ [] = own ∙ ap₂ (λ (a : List ℕ) (b : List ℕ). a ∷ records_of d b) whole cut_off.1 in
    record { rest = rest; judged = h; stop = inr (inr (cut_off.0, last)) }

-- ---- the record that is refused

pub told_of : (C : List ℕ → Cause → Type 0) (d e : ℕ) (matches R : List ℕ → Bool) (start : Position) (text : List ℕ) (is_end : Bool) (rest line after : List ℕ) (into : List FoundRecord) (count : ℕ) (here : Position) (f : SearchError) → IsJudged d matches R start text is_end rest into count here → e ≡ d → records_of e rest ≡ line ∷ records_of e after
    → IfRefused (TellsRecord C here.place line) f → IfRefused (TellsOneOf C start.place (records_of d text)) f
told_of C d e matches R start text is_end rest line after into count here (errors.Refused r) h by cut t =
    let own : records_of d rest ≡ line ∷ records_of d after = subst (λ (n : ℕ). records_of n rest ≡ line ∷ records_of n after) by cut in
    record {
      before = h.judged;
      line = line;
      others = records_of d after;
      among = h.records ∙ ap (λ (l : List (List ℕ)). h.judged ++ l) own;
      told = record { begins = t.begins ∙ h.place; cause = t.cause };
    }
told_of C d e matches R start text is_end rest line after into count here errors.Read h by cut t = tt
told_of C d e matches R start text is_end rest line after into count here errors.CutShort h by cut t = tt
told_of C d e matches R start text is_end rest line after into count here errors.TooFar h by cut t = tt
told_of C d e matches R start text is_end rest line after into count here errors.Write h by cut t = tt
told_of C d e matches R start text is_end rest line after into count here errors.Memory h by cut t = tt

refused_at : (R : List ℕ → Bool) (xs ys : List (List ℕ)) (line : List ℕ) → AllByRecursion (λ x. R x ≡ false) xs → R line ≡ true → before_refused R (xs ++ line ∷ ys) ≡ Some (length (concat xs))
refused_at R [] ys line h so = rw so refl
refused_at R (x ∷ xs) ys line h so =
    rw h.0 (ap (option_map (λ n. length x + n)) (refused_at R xs ys line h.1 so) ∙ ap Some (sym (length-append x (concat xs))))

pub first_of_text : (C : List ℕ → Cause → Type 0) (d e : ℕ) (matches R : List ℕ → Bool) (start : Position) (text : List ℕ) (is_end : Bool) (rest line after : List ℕ) (into : List FoundRecord) (count : ℕ) (here : Position) (f : SearchError) → IsJudged d matches R start text is_end rest into count here → e ≡ d → records_of e rest ≡ line ∷ records_of e after
    → IfRefused (TellsRecord C here.place line) f → IfRefused (λ _. R line ≡ true) f → IfRefused (TellsOffset start.place (before_refused R (records_of d text))) f
first_of_text C d e matches R start text is_end rest line after into count here (errors.Refused r) h by cut t so =
    let own : records_of d rest ≡ line ∷ records_of d after = subst (λ (n : ℕ). records_of n rest ≡ line ∷ records_of n after) by cut in
    let at : before_refused R (records_of d text) ≡ Some (length (concat h.judged)) = ap (before_refused R) (h.records ∙ ap (λ (l : List (List ℕ)). h.judged ++ l) own) ∙ refused_at R h.judged (records_of d after) line h.passed so in
    let begins : r.place ≡ min (start.place + length (concat h.judged)) (2 ^ 64 - 1) = t.begins ∙ h.place in
    subst (λ (o : Option ℕ). TellsOffset start.place o r) (sym at) begins
first_of_text C d e matches R start text is_end rest line after into count here errors.Read h by cut t so = tt
first_of_text C d e matches R start text is_end rest line after into count here errors.CutShort h by cut t so = tt
first_of_text C d e matches R start text is_end rest line after into count here errors.TooFar h by cut t so = tt
first_of_text C d e matches R start text is_end rest line after into count here errors.Write h by cut t so = tt
first_of_text C d e matches R start text is_end rest line after into count here errors.Memory h by cut t so = tt

pub refused_next : (C : List ℕ → Cause → Type 0) (d e : ℕ) (R : List ℕ → Bool) (is_end : Bool) (rest line after : List ℕ) (here : Position) (f : SearchError) → e ≡ d → records_of e rest ≡ line ∷ records_of e after → rest ≡ line ++ after → (is_end ≡ false → after ≢ [])
    → IfRefused (TellsRecord C here.place line) f → IfRefused (λ _. R line ≡ true) f → IfRefused (IsRefusedNext d R is_end rest here) f
refused_next C d e R is_end rest line after here (errors.Refused r) by cut parts goes_on t so =
    let own : records_of d rest ≡ line ∷ records_of d after = subst (λ (n : ℕ). records_of n rest ≡ line ∷ records_of n after) by cut in
    record { line = line; after = after; is = own; certain = λ unended more. cut_stays d line after rest more own parts (goes_on unended); refused = so; place = t.begins }
refused_next C d e R is_end rest line after here errors.Read by cut parts goes_on t so = tt
refused_next C d e R is_end rest line after here errors.CutShort by cut parts goes_on t so = tt
refused_next C d e R is_end rest line after here errors.TooFar by cut parts goes_on t so = tt
refused_next C d e R is_end rest line after here errors.Write by cut parts goes_on t so = tt
refused_next C d e R is_end rest line after here errors.Memory by cut parts goes_on t so = tt

-- ---- what was not written

pub kept_more : (n m : ℕ) (old now new : List FoundRecord) → n ≤ m → drop n now ≡ drop n old → drop m new ≡ drop m now → drop m new ≡ drop m old
kept_more n m old now new below before here =
    let split : n + (m - n) ≡ m = omega arith in
    let at : (xs : List FoundRecord) → drop (m - n) (drop n xs) ≡ drop m xs = λ xs. drop-drop (m - n) n xs ∙ ap (λ (k : ℕ). drop k xs) split in
    here ∙ sym (at now) ∙ ap (drop (m - n)) before ∙ at old
