-- The first record that is refused.
use Rattle.std.proofs.Common.{◌≡◌, ◌≢◌, ◌≤◌, ◌<◌, ◌+◌, ◌-◌, ◌^◌, ◌==◌, min, arith, ℕ, suc, List, [], ◌∷◌, ◌++◌, Bool, true, false, if◌then◌else◌, Option, None, Some, refl, sym, ap, ◌∙◌, subst, length, take, drop, get_or, take_all, drop-cons, append_assoc}
use Rattle.std.specs.Prelude.{IfErr, OnOk, Result, Ok, Err, option_map}
use Rattle.std.proofs.lemmas.Grind.{take_at_read}
use Rattle.std.proofs.lemmas.List.{length-append, take-append-drop}
use Rattle.std.specs.List.{All, concat}
use Rattle.csv_records.specs.Lemmas.RecordLaws.{concat-records_of}
use Rattle.csv_records.specs.Records.{records_of}
use Rattle.zone_index.specs.Errors.{IfRecordRefused, IfRefused, TellsOffset, TellsRecord, before_refused, fault_at}
use Rattle.zone_index.specs.Records.{HaveRowsIf}
use Rattle.zone_index.specs.Taking.{IsTaken, StandsBehind}
use Rattle.zone_index.specs.Zones.{IsHeld, IsIndexOf, IsZoneOf, offset_or, refused_in, zone_bytes, zone_records}
use Rattle.zone_index.specs.declared.errors.Cause.{Cause}
use Rattle.zone_index.specs.declared.errors.SearchError.{SearchError}
use Rattle.zone_index.specs.declared.errors.SearchError.TheVariants as errors
use Rattle.zone_index.specs.declared.errors.RecordError.{RecordError}
use Rattle.zone_index.specs.declared.errors.RecordError.TheVariants as record_faults
use Rattle.zone_index.specs.declared.errors.Refusal.{Refusal}
use Rattle.zone_index.specs.declared.zones.Zone.{Zone}
use Rattle.zone_index.proofs.Answering.{rows_of_piece}

-- ---- numbers that are added

abbrev later : ℕ → Option ℕ → Option ℕ
later k o = option_map (λ n. k + n) o

later_none : (k : ℕ) (o : Option ℕ) → k ≡ 0 → later k o ≡ o
later_none k None e = refl
later_none k (Some n) e = ap (λ (m : ℕ). Some m) (omega (arith, e))

later_twice : (a b c : ℕ) (o : Option ℕ) → a + b ≡ c → later a (later b o) ≡ later c o
later_twice a b c None e = refl
later_twice a b c (Some n) e = ap (λ (m : ℕ). Some m) (omega (arith, e))

-- the first, or else the second so far behind
abbrev or_later : Option ℕ → ℕ → Option ℕ → Option ℕ
or_later None k o = later k o
or_later (Some n) k o = Some n

later_or : (a k m : ℕ) (o q : Option ℕ) → a + k ≡ m → later a (or_later o k q) ≡ or_later (later a o) m q
later_or a k m None q e = later_twice a k m q e
later_or a k m (Some n) q e = refl

refused_step : (R : List ℕ → Bool) (x : List ℕ) (xs ys : List (List ℕ)) (b : Bool) → R x ≡ b → before_refused R (xs ++ ys) ≡ or_later (before_refused R xs) (length (concat xs)) (before_refused R ys)
    → before_refused R ((x ∷ xs) ++ ys) ≡ or_later (before_refused R (x ∷ xs)) (length (concat (x ∷ xs))) (before_refused R ys)
refused_step R x xs ys true e h = rw e refl
refused_step R x xs ys false e h =
    rw e (ap (later (length x)) h ∙ later_or (length x) (length (concat xs)) (length (concat (x ∷ xs))) (before_refused R xs) (before_refused R ys) (sym (length-append x (concat xs))))

refused-append : (R : List ℕ → Bool) (xs ys : List (List ℕ)) → before_refused R (xs ++ ys) ≡ or_later (before_refused R xs) (length (concat xs)) (before_refused R ys)
refused-append R [] ys = sym (later_none 0 (before_refused R ys) refl)
refused-append R (x ∷ xs) ys = refused_step R x xs ys (R x) refl (refused-append R xs ys)

-- ---- a text, record by record

-- no record is refused of those before the rest of a text
pub record Sifted (R : List ℕ → Bool) (d : ℕ) (text rest : List ℕ) : Type 0 where
  pub passed : before_refused R (records_of d text) ≡ option_map (λ n. (length text - length rest) + n) (before_refused R (records_of d rest))
  pub within : length rest ≤ length text

pub sifted_none : (R : List ℕ → Bool) (d : ℕ) (text : List ℕ) → Sifted R d text text
sifted_none R d text = record { passed = sym (later_none (length text - length text) (before_refused R (records_of d text)) (omega arith)); within = omega arith }

pub sifted_more : (R : List ℕ → Bool) (d e : ℕ) (text rest line after : List ℕ) → Sifted R d text rest → e ≡ d → records_of e rest ≡ line ∷ records_of e after → rest ≡ line ++ after → R line ≡ false → Sifted R d text after
sifted_more R d e text rest line after h by cut parts passes =
    let own : records_of d rest ≡ line ∷ records_of d after = subst (λ (n : ℕ). records_of n rest ≡ line ∷ records_of n after) by cut in
    let long : length rest ≡ length line + length after = ap length parts ∙ length-append line after in
    let one : before_refused R (records_of d rest) ≡ later (length line) (before_refused R (records_of d after)) = ap (before_refused R) own ∙ rw passes refl in
    record {
      passed = h.passed ∙ ap (later (length text - length rest)) one ∙ later_twice (length text - length rest) (length line) (length text - length after) (before_refused R (records_of d after)) (omega (arith, h.within, long));
      within = omega (arith, h.within, long);
    }

pub sifted_all : (R : List ℕ → Bool) (d : ℕ) (text rest : List ℕ) → Sifted R d text rest → rest ≡ [] → before_refused R (records_of d text) ≡ None
sifted_all R d text rest h none = h.passed ∙ ap (λ (l : List ℕ). option_map (λ n. (length text - length rest) + n) (before_refused R (records_of d l))) none

sifted_first : (R : List ℕ → Bool) (d e : ℕ) (text rest line after : List ℕ) (first place : ℕ) (r : Refusal) → Sifted R d text rest → e ≡ d → records_of e rest ≡ line ∷ records_of e after → place ≡ min (first + (length text - length rest)) (2 ^ 64 - 1) → r.place ≡ place → R line ≡ true
    → TellsOffset first (before_refused R (records_of d text)) r
sifted_first R d e text rest line after first place r h by cut is told refused =
    let own : records_of d rest ≡ line ∷ records_of d after = subst (λ (n : ℕ). records_of n rest ≡ line ∷ records_of n after) by cut in
    let one : before_refused R (records_of d rest) ≡ Some 0 = ap (before_refused R) own ∙ rw refused refl in
    let all : before_refused R (records_of d text) ≡ Some ((length text - length rest) + 0) = h.passed ∙ ap (later (length text - length rest)) one in
    let here : r.place ≡ min (first + ((length text - length rest) + 0)) (2 ^ 64 - 1) = told ∙ is ∙ ap (λ (n : ℕ). min (first + n) (2 ^ 64 - 1)) (omega arith) in
    subst (λ (o : Option ℕ). TellsOffset first o r) (sym all) here

-- the same of a fault
pub first_in_text : (P : Type 0) (R : List ℕ → Bool) (C : List ℕ → Cause → Type 0) (d e : ℕ) (text rest line after : List ℕ) (first place : ℕ) (f : SearchError) → (P → Sifted R d text rest) → e ≡ d → records_of e rest ≡ line ∷ records_of e after → place ≡ min (first + (length text - length rest)) (2 ^ 64 - 1)
    → IfRefused (TellsRecord C place line) f → IfRefused (λ _. R line ≡ true) f → IfRefused (λ r. P → TellsOffset first (before_refused R (records_of d text)) r) f
first_in_text P R C d e text rest line after first place (errors.Refused r) h by cut is told refused = λ p. sifted_first R d e text rest line after first place r (h p) by cut is told.begins refused
first_in_text P R C d e text rest line after first place errors.Read h by cut is told refused = tt
first_in_text P R C d e text rest line after first place errors.CutShort h by cut is told refused = tt
first_in_text P R C d e text rest line after first place errors.TooFar h by cut is told refused = tt
first_in_text P R C d e text rest line after first place errors.Write h by cut is told refused = tt
first_in_text P R C d e text rest line after first place errors.Memory h by cut is told refused = tt

-- what is told where that holds
pub told_where : (P : Type 0) (Q : Refusal → Type 0) (f : SearchError) → P → IfRefused (λ r. P → Q r) f → IfRefused Q f
told_where P Q (errors.Refused r) p h = h p
told_where P Q errors.Read p h = tt
told_where P Q errors.CutShort p h = tt
told_where P Q errors.TooFar p h = tt
told_where P Q errors.Write p h = tt
told_where P Q errors.Memory p h = tt

-- the same, where the text begins at offset 0
pub first_in_records : (R : List ℕ → Bool) (C : List ℕ → Cause → Type 0) (d place : ℕ) (text rest line after : List ℕ) (f : RecordError) → Sifted R d text rest → records_of d rest ≡ line ∷ records_of d after → place ≡ min (0 + (length text - length rest)) (2 ^ 64 - 1)
    → IfRecordRefused (TellsRecord C place line) f → IfRecordRefused (λ _. R line ≡ true) f → IfRecordRefused (TellsOffset 0 (before_refused R (records_of d text))) f
first_in_records R C d place text rest line after record_faults.Memory h cut is told refused = tt
first_in_records R C d place text rest line after (record_faults.Refused r) h cut is told refused = sifted_first R d d text rest line after 0 place r h refl cut is told.begins refused

-- what is told of a text, told of the file
pub first_at : (first : ℕ) (o : Option ℕ) (f : RecordError) → IfRecordRefused (TellsOffset 0 o) f → IfRefused (TellsOffset first o) (fault_at first f)
first_at first o record_faults.Memory h = tt
first_at first None (record_faults.Refused r) h = absurd h
first_at first (Some n) (record_faults.Refused r) h = omega (arith, h)

-- ---- a stream, piece by piece

-- no record is refused of those before what is left of a stream, which have so many bytes
pub record SiftedRest (R : List ℕ → Bool) (d : ℕ) (bytes : List ℕ) (left : Option (List ℕ)) (passed : ℕ) : Type 0 where
  pub rest : List ℕ
  pub is : left ≡ Some rest
  pub same : before_refused R (records_of d bytes) ≡ option_map (λ n. passed + n) (before_refused R (records_of d rest))

pub rest_none : (R : List ℕ → Bool) (d : ℕ) (bytes : List ℕ) (left : Option (List ℕ)) → left ≡ Some bytes → SiftedRest R d bytes left 0
rest_none R d bytes left is = record { rest = bytes; is = is; same = sym (later_none 0 (before_refused R (records_of d bytes)) refl) }

pub rest_none_at : (R : List ℕ → Bool) (d : ℕ) (bytes : List ℕ) (left : Option (List ℕ)) (start : ℕ) → left ≡ Some bytes → SiftedRest R d bytes left (start - start)
rest_none_at R d bytes left start is = let none : 0 ≡ start - start = omega arith in subst (λ (n : ℕ). SiftedRest R d bytes left n) none (rest_none R d bytes left is)

-- what is refused of the rest, by a piece and what is left behind it
piece_then : (R : List ℕ → Bool) (d e : ℕ) (bytes text : List ℕ) (next : Option (List ℕ)) → e ≡ d → (t : IsTaken e bytes text next) → before_refused R (records_of d bytes) ≡ or_later (before_refused R (records_of d text)) (length text) (before_refused R (records_of d t.rest))
piece_then R d e bytes text next by t =
    let own : records_of d bytes ≡ records_of d text ++ records_of d t.rest = subst (λ (n : ℕ). records_of n bytes ≡ records_of n text ++ records_of n t.rest) by t.records in
    ap (before_refused R) own ∙ refused-append R (records_of d text) (records_of d t.rest)
    ∙ ap (λ (l : List ℕ). or_later (before_refused R (records_of d text)) (length l) (before_refused R (records_of d t.rest))) (concat-records_of d text)

pub rest_more : (R : List ℕ → Bool) (d e : ℕ) (bytes text view : List ℕ) (left next : Option (List ℕ)) (passed now : ℕ) (s : SiftedRest R d bytes left passed) → e ≡ d → IsTaken e s.rest text next → now ≡ passed + length text → view ≡ text
    → before_refused R (records_of d view) ≡ None → SiftedRest R d bytes next now
rest_more R d e bytes text view left next passed now s by t sum viewed none =
    let none_here : before_refused R (records_of d text) ≡ None = ap (λ (l : List ℕ). before_refused R (records_of d l)) (sym viewed) ∙ none in
    let behind = before_refused R (records_of d t.rest) in
    record {
      rest = t.rest;
      is = t.is;
      same = s.same ∙ ap (later passed) (piece_then R d e s.rest text next by t ∙ ap (λ (o : Option ℕ). or_later o (length text) behind) none_here) ∙ later_twice passed (length text) now behind (sym sum);
    }

pub rest_all : (R : List ℕ → Bool) (d : ℕ) (bytes : List ℕ) (left : Option (List ℕ)) (passed : ℕ) (s : SiftedRest R d bytes left passed) → s.rest ≡ [] → before_refused R (records_of d bytes) ≡ None
rest_all R d bytes left passed s none = s.same ∙ ap (λ (l : List ℕ). option_map (λ n. passed + n) (before_refused R (records_of d l))) none

told_behind : (start passed at k : ℕ) (o q all : Option ℕ) (r : Refusal) → at ≡ min (start + passed) (2 ^ 64 - 1) → all ≡ later passed (or_later o k q) → TellsOffset at o r → TellsOffset start all r
told_behind start passed at k None q all r place is h = absurd h
told_behind start passed at k (Some n) q all r place is h =
    let here : r.place ≡ min (start + (passed + n)) (2 ^ 64 - 1) = omega (arith, place, h) in
    subst (λ (o : Option ℕ). TellsOffset start o r) (sym is) here

pub first_in_piece : (R : List ℕ → Bool) (d e : ℕ) (text view : List ℕ) (all left next : Option (List ℕ)) (start passed at : ℕ) (f : SearchError) → ((bytes : List ℕ) → all ≡ Some bytes → SiftedRest R d bytes left passed) → at ≡ min (start + passed) (2 ^ 64 - 1) → e ≡ d
    → ((bytes : List ℕ) → left ≡ Some bytes → IsTaken e bytes text next) → view ≡ text → IfRefused (TellsOffset at (before_refused R (records_of d view))) f
    → IfRefused (λ r. (bytes : List ℕ) → all ≡ Some bytes → TellsOffset start (before_refused R (records_of d bytes)) r) f
first_in_piece R d e text view all left next start passed at (errors.Refused r) before place by taken viewed h = λ bytes is.
    let s : SiftedRest R d bytes left passed = before bytes is in
    let t : IsTaken e s.rest text next = taken s.rest s.is in
    told_behind start passed at (length text) (before_refused R (records_of d text)) (before_refused R (records_of d t.rest)) (before_refused R (records_of d bytes)) r place
    (s.same ∙ ap (later passed) (piece_then R d e s.rest text next by t)) (subst (λ (l : List ℕ). TellsOffset at (before_refused R (records_of d l)) r) viewed h)
first_in_piece R d e text view all left next start passed at errors.Read before place by taken viewed h = tt
first_in_piece R d e text view all left next start passed at errors.CutShort before place by taken viewed h = tt
first_in_piece R d e text view all left next start passed at errors.TooFar before place by taken viewed h = tt
first_in_piece R d e text view all left next start passed at errors.Write before place by taken viewed h = tt
first_in_piece R d e text view all left next start passed at errors.Memory before place by taken viewed h = tt

-- no record is refused of those before what is left of a stream
pub record IsJudged (R : List ℕ → Bool) (d : ℕ) (bytes : List ℕ) (left : Option (List ℕ)) : Type 0 where
  pub done : List (List ℕ)
  pub rest : List ℕ
  pub is : left ≡ Some rest
  pub records : records_of d bytes ≡ done ++ records_of d rest
  pub passed : before_refused R done ≡ None

pub judged_none : (R : List ℕ → Bool) (d : ℕ) (bytes : List ℕ) (left : Option (List ℕ)) → left ≡ Some bytes → IsJudged R d bytes left
judged_none R d bytes left is = record { done = []; rest = bytes; is = is; records = refl; passed = refl }

neither : (R : List ℕ → Bool) (xs ys : List (List ℕ)) → before_refused R xs ≡ None → before_refused R ys ≡ None → before_refused R (xs ++ ys) ≡ None
neither R xs ys none others =
    refused-append R xs ys ∙ ap (λ (o : Option ℕ). or_later o (length (concat xs)) (before_refused R ys)) none ∙ ap (later (length (concat xs))) others

pub judged_more : (R : List ℕ → Bool) (d e : ℕ) (bytes text view : List ℕ) (left next : Option (List ℕ)) (s : IsJudged R d bytes left) → e ≡ d → IsTaken e s.rest text next → view ≡ text → before_refused R (records_of d view) ≡ None → IsJudged R d bytes next
judged_more R d e bytes text view left next s by t viewed none =
    let taken : IsTaken d s.rest text next = subst (λ (n : ℕ). IsTaken n s.rest text next) by t in
    record {
      done = s.done ++ records_of d text;
      rest = taken.rest;
      is = taken.is;
      records = s.records ∙ ap (λ (l : List (List ℕ)). s.done ++ l) taken.records ∙ sym (append_assoc s.done (records_of d text) (records_of d taken.rest));
      passed = neither R s.done (records_of d text) s.passed (ap (λ (l : List ℕ). before_refused R (records_of d l)) (sym viewed) ∙ none);
    }

told_some : (at : ℕ) (o : Option ℕ) (r : Refusal) → TellsOffset at o r → o ≢ None
told_some at None r h = absurd h
told_some at (Some n) r h = λ e. cc

-- a piece of so many records at most, of which one is refused
pub stands_behind : (R : List ℕ → Bool) (d e size : ℕ) (text view : List ℕ) (all left next : Option (List ℕ)) (at : ℕ) (f : SearchError) → ((bytes : List ℕ) → all ≡ Some bytes → IsJudged R d bytes left) → e ≡ d → ((bytes : List ℕ) → left ≡ Some bytes → IsTaken e bytes text next)
    → ((bytes : List ℕ) → left ≡ Some bytes → length (records_of e text) ≡ min size (length (records_of e bytes))) → view ≡ text → IfRefused (TellsOffset at (before_refused R (records_of d view))) f
    → IfRefused (λ r. (bytes : List ℕ) → all ≡ Some bytes → StandsBehind d size R bytes next) f
stands_behind R d e size text view all left next at (errors.Refused r) before by taken many viewed h = λ bytes is.
    let s : IsJudged R d bytes left = before bytes is in
    let t : IsTaken d s.rest text next = subst (λ (n : ℕ). IsTaken n s.rest text next) by (taken s.rest s.is) in
    let long : length (records_of d text) ≡ min size (length (records_of d s.rest)) = subst (λ (n : ℕ). length (records_of n text) ≡ min size (length (records_of n s.rest))) by (many s.rest s.is) in
    let here : TellsOffset at (before_refused R (records_of d text)) r = subst (λ (l : List ℕ). TellsOffset at (before_refused R (records_of d l)) r) viewed h in
    record {
      before = s.done;
      block = records_of d text;
      rest = t.rest;
      is = t.is;
      records = s.records ∙ ap (λ (l : List (List ℕ)). s.done ++ l) t.records;
      few = omega (arith, long);
      passed = s.passed;
      refused = told_some at (before_refused R (records_of d text)) r here;
    }
stands_behind R d e size text view all left next at errors.Read before by taken many viewed h = tt
stands_behind R d e size text view all left next at errors.CutShort before by taken many viewed h = tt
stands_behind R d e size text view all left next at errors.TooFar before by taken many viewed h = tt
stands_behind R d e size text view all left next at errors.Write before by taken many viewed h = tt
stands_behind R d e size text view all left next at errors.Memory before by taken many viewed h = tt

-- nothing is left behind a piece without bytes
pub at_end : (e : ℕ) (bytes text : List ℕ) (next : Option (List ℕ)) → IsTaken e bytes text next → bytes ≡ [] → next ≡ Some []
at_end e bytes text next t none =
    let long : length text + length t.rest ≡ 0 = sym (length-append text t.rest) ∙ ap length (sym t.parts) ∙ ap length none in
    t.is ∙ ap (λ (l : List ℕ). Some l) (by_length t.rest (omega (arith, long)))
  where
    by_length : (xs : List ℕ) → length xs ≡ 0 → xs ≡ []
    by_length [] e = refl
    by_length (x ∷ xs) e = absurd (omega (arith, e))

-- ---- zones

abbrev or_else : Option ℕ → Option ℕ → Option ℕ
or_else None o = o
or_else (Some n) o = Some n

offset_or_else : (first : ℕ) (o p q : Option ℕ) → offset_or first o (or_else p q) ≡ or_else (offset_or first o p) q
offset_or_else first None p q = refl
offset_or_else first (Some n) p q = refl

zones_step : (R : List ℕ → Bool) (reads : Zone → Bool) (f : Zone → List (List ℕ)) (z : Zone) (xs ys : List Zone) (b : Bool) → reads z ≡ b → refused_in R reads f (xs ++ ys) ≡ or_else (refused_in R reads f xs) (refused_in R reads f ys)
    → refused_in R reads f ((z ∷ xs) ++ ys) ≡ or_else (refused_in R reads f (z ∷ xs)) (refused_in R reads f ys)
zones_step R reads f z xs ys true e h = rw e (ap (offset_or z.first (before_refused R (f z))) h ∙ offset_or_else z.first (before_refused R (f z)) (refused_in R reads f xs) (refused_in R reads f ys))
zones_step R reads f z xs ys false e h = rw e h

zones-append : (R : List ℕ → Bool) (reads : Zone → Bool) (f : Zone → List (List ℕ)) (xs ys : List Zone) → refused_in R reads f (xs ++ ys) ≡ or_else (refused_in R reads f xs) (refused_in R reads f ys)
zones-append R reads f [] ys = refl
zones-append R reads f (z ∷ xs) ys = zones_step R reads f z xs ys (reads z) refl (zones-append R reads f xs ys)

one_zone : (R : List ℕ → Bool) (reads : Zone → Bool) (f : Zone → List (List ℕ)) (z : Zone) (b : Bool) → reads z ≡ b → (reads z ≡ true → before_refused R (f z) ≡ None) → refused_in R reads f (z ∷ []) ≡ None
one_zone R reads f z true e h = rw (e, h e) refl
one_zone R reads f z false e h = rw e refl

-- a zone more, of which no record is refused
pub zone_sifted : (R : List ℕ → Bool) (reads : Zone → Bool) (f : Zone → List (List ℕ)) (zones : List Zone) (i : ℕ) (z : Zone) → i < length zones → z ≡ get_or zones i z → refused_in R reads f (take i zones) ≡ None → (reads z ≡ true → before_refused R (f z) ≡ None)
    → refused_in R reads f (take (i + 1) zones) ≡ None
zone_sifted R reads f zones i z inside is before here =
    let more : take (i + 1) zones ≡ take i zones ++ z ∷ [] = (take_at_read zones i z inside).1 ∙ ap (λ (y : Zone). take i zones ++ y ∷ []) (sym is) in
    ap (refused_in R reads f) more ∙ zones-append R reads f (take i zones) (z ∷ []) ∙ ap (λ (o : Option ℕ). or_else o (refused_in R reads f (z ∷ []))) before ∙ one_zone R reads f z (reads z) refl here

pub zones_sifted : (R : List ℕ → Bool) (reads : Zone → Bool) (f : Zone → List (List ℕ)) (zones : List Zone) (i : ℕ) → length zones ≤ i → refused_in R reads f (take i zones) ≡ None → refused_in R reads f zones ≡ None
zones_sifted R reads f zones i ended before = ap (refused_in R reads f) (sym (take_all i zones ended)) ∙ before

told_first : (first : ℕ) (o q all : Option ℕ) (r : Refusal) → all ≡ offset_or first o q → TellsOffset first o r → TellsOffset 0 all r
told_first first None q all r is h = absurd h
told_first first (Some n) q all r is h =
    let here : r.place ≡ min (0 + (first + n)) (2 ^ 64 - 1) = omega (arith, h) in
    subst (λ (o : Option ℕ). TellsOffset 0 o r) (sym is) here

first_of_zones : (R : List ℕ → Bool) (reads : Zone → Bool) (f : Zone → List (List ℕ)) (zones : List Zone) (i : ℕ) (z : Zone) (r : Refusal) → i < length zones → z ≡ get_or zones i z → refused_in R reads f (take i zones) ≡ None → reads z ≡ true → TellsOffset z.first (before_refused R (f z)) r
    → TellsOffset 0 (refused_in R reads f zones) r
first_of_zones R reads f zones i z r inside is before reads_it h =
    let others : List Zone = drop (suc i) zones in
    let parts : zones ≡ take i zones ++ z ∷ others = sym (take-append-drop i zones) ∙ ap (λ (l : List Zone). take i zones ++ l) (drop-cons zones i z inside ∙ ap (λ (y : Zone). y ∷ others) (sym is)) in
    told_first z.first (before_refused R (f z)) (refused_in R reads f others) (refused_in R reads f zones) r
    (ap (refused_in R reads f) parts ∙ zones-append R reads f (take i zones) (z ∷ others) ∙ ap (λ (o : Option ℕ). or_else o (refused_in R reads f (z ∷ others))) before ∙ rw reads_it refl) h

-- the same of a fault, where the reader has the bytes that it had
pub first_in_zones : (R : List ℕ → Bool) (reads : Zone → Bool) (d : ℕ) (has_row : List ℕ → Bool) (Describes : List ℕ → List (List ℕ) → Type 0) (old now : Option (List ℕ)) (zones : List Zone) (i : ℕ) (z : Zone) (f : SearchError) → i < length zones → z ≡ get_or zones i z → now ≡ old
    → ((was : List ℕ) → IsHeld old was → All (IsZoneOf d has_row Describes was) zones → refused_in R reads (zone_records d was) (take i zones) ≡ None)
    → IfRefused (λ r. (was : List ℕ) → IsHeld now was → IsZoneOf d has_row Describes was z → (reads z ≡ true) × TellsOffset z.first (before_refused R (zone_records d was z)) r) f
    → IfRefused (λ r. (was : List ℕ) (start : ℕ) → IsHeld old was → IsIndexOf d has_row Describes start zones was → TellsOffset 0 (refused_in R reads (zone_records d was) zones) r) f
first_in_zones R reads d has_row Describes old now zones i z (errors.Refused r) inside is same before h = λ was start held index.
    let own : IsZoneOf d has_row Describes was z = subst (λ (y : Zone). IsZoneOf d has_row Describes was y) (sym is) (index.right i z inside) in
    let here = h was (subst (λ (known : Option (List ℕ)). IsHeld known was) (sym same) held) own in
    first_of_zones R reads (zone_records d was) zones i z r inside is (before was held index.right) here.0 here.1
first_in_zones R reads d has_row Describes old now zones i z errors.Read inside is same before h = tt
first_in_zones R reads d has_row Describes old now zones i z errors.CutShort inside is same before h = tt
first_in_zones R reads d has_row Describes old now zones i z errors.TooFar inside is same before h = tt
first_in_zones R reads d has_row Describes old now zones i z errors.Write inside is same before h = tt
first_in_zones R reads d has_row Describes old now zones i z errors.Memory inside is same before h = tt

-- ---- the bytes of a zone that were read

pub zone_passed : (R : List ℕ → Bool) (d : ℕ) (was piece view : List ℕ) (z : Zone) → view ≡ piece → piece ≡ zone_bytes was z → before_refused R (records_of d view) ≡ None → before_refused R (zone_records d was z) ≡ None
zone_passed R d was piece view z viewed is none = ap (λ (l : List ℕ). before_refused R (records_of d l)) (sym (viewed ∙ is)) ∙ none

pub zone_first : (R : List ℕ → Bool) (reads : Type 0) (b : Bool) (d : ℕ) (has_row : List ℕ → Bool) (Describes : List ℕ → List (List ℕ) → Type 0) (known : Option (List ℕ)) (piece view : List ℕ) (z : Zone) (f : SearchError) → b ≡ (z.records == z.rows) → view ≡ piece
    → ((was : List ℕ) → IsHeld known was → z.first + z.length ≤ length was → piece ≡ zone_bytes was z) → reads → IfRefused (λ r. HaveRowsIf b has_row (records_of d view) → TellsOffset z.first (before_refused R (records_of d view)) r) f
    → IfRefused (λ r. (was : List ℕ) → IsHeld known was → IsZoneOf d has_row Describes was z → reads × TellsOffset z.first (before_refused R (zone_records d was z)) r) f
zone_first R reads b d has_row Describes known piece view z (errors.Refused r) is viewed read y h = λ was held zone.
    let here : piece ≡ zone_bytes was z = read was held zone.inside in
    (y, subst (λ (l : List ℕ). TellsOffset z.first (before_refused R (records_of d l)) r) (viewed ∙ here) (h (rows_of_piece b d has_row Describes was piece view z is zone viewed here)))
zone_first R reads b d has_row Describes known piece view z errors.Read is viewed read y h = tt
zone_first R reads b d has_row Describes known piece view z errors.CutShort is viewed read y h = tt
zone_first R reads b d has_row Describes known piece view z errors.TooFar is viewed read y h = tt
zone_first R reads b d has_row Describes known piece view z errors.Write is viewed read y h = tt
zone_first R reads b d has_row Describes known piece view z errors.Memory is viewed read y h = tt

-- the same of what a count of the zone answers
pub zone_passes : (R : List ℕ → Bool) (reads : Type 0) (b : Bool) (d : ℕ) (has_row : List ℕ → Bool) (Describes : List ℕ → List (List ℕ) → Type 0) (known : Option (List ℕ)) (piece view : List ℕ) (z : Zone) (r : Result ℕ SearchError) → b ≡ (z.records == z.rows) → view ≡ piece
    → ((was : List ℕ) → IsHeld known was → z.first + z.length ≤ length was → piece ≡ zone_bytes was z) → OnOk r (HaveRowsIf b has_row (records_of d view) → before_refused R (records_of d view) ≡ None)
    → OnOk r ((was : List ℕ) → IsHeld known was → IsZoneOf d has_row Describes was z → reads → before_refused R (zone_records d was z) ≡ None)
zone_passes R reads b d has_row Describes known piece view z (Ok n) is viewed read h = λ was held zone y.
    let here : piece ≡ zone_bytes was z = read was held zone.inside in
    zone_passed R d was piece view z viewed here (h (rows_of_piece b d has_row Describes was piece view z is zone viewed here))
zone_passes R reads b d has_row Describes known piece view z (Err f) is viewed read h = tt

pub zone_tells : (R : List ℕ → Bool) (reads : Type 0) (b : Bool) (d : ℕ) (has_row : List ℕ → Bool) (Describes : List ℕ → List (List ℕ) → Type 0) (known : Option (List ℕ)) (piece view : List ℕ) (z : Zone) (r : Result ℕ SearchError) → b ≡ (z.records == z.rows) → view ≡ piece
    → ((was : List ℕ) → IsHeld known was → z.first + z.length ≤ length was → piece ≡ zone_bytes was z) → reads → IfErr r (IfRefused (λ x. HaveRowsIf b has_row (records_of d view) → TellsOffset z.first (before_refused R (records_of d view)) x))
    → IfErr r (IfRefused (λ x. (was : List ℕ) → IsHeld known was → IsZoneOf d has_row Describes was z → reads × TellsOffset z.first (before_refused R (zone_records d was z)) x))
zone_tells R reads b d has_row Describes known piece view z (Ok n) is viewed read y h = tt
zone_tells R reads b d has_row Describes known piece view z (Err f) is viewed read y h = zone_first R reads b d has_row Describes known piece view z f is viewed read y h
