-- What holds after a flush, which keeps what was written.
use Rattle.std.proofs.Common.{◌≡◌, ℕ, List, Bool, Option, Result, Ok, Err, refl, sym, ap, ◌∙◌, subst}
use Rattle.std.specs.Io.KnownBytes.{Keeps}
use Rattle.std.specs.Prelude.{IfErr, OnOk}
use Rattle.csv_records.specs.Records.{records_of}
use Rattle.zone_index.specs.Sinks.{WritesFirst}
use Rattle.zone_index.specs.declared.errors.Cause.{Cause}
use Rattle.zone_index.specs.declared.errors.SearchError.{SearchError}
use Rattle.zone_index.specs.declared.errors.SearchError.TheVariants as errors
use Rattle.zone_index.specs.declared.records.Decision.{Decision}
use Rattle.zone_index.specs.declared.zones.Zone.{Zone}
use Rattle.zone_index.proofs.Rests.{appends-kept}
use Rattle.zone_index.proofs.Sinking.{first_of_all}
use Rattle.zone_map.specs.Answers.{AnswersFindInAll, AnswersFindWhole}
use Rattle.zone_map.specs.declared.answering.Found.{Found}

first-kept : (a b c : Option (List ℕ)) (bytes : List ℕ) → WritesFirst a b bytes → Keeps b c → WritesFirst a c bytes
first-kept a b c bytes h same = (h.0, h.1, h.2, appends-kept a b c h.0 h.3 same)

-- ---- of zones and of what is new

find_kept : (IsIndex : ℕ → List Zone → List ℕ → Type 0) (Refuses : List ℕ → Cause → Type 0) (R : List ℕ → Bool) (d : ℕ) (keep : List ℕ → Bool) (decides : List ℕ → Decision) (f : ℕ → List ℕ → List ℕ) (start : ℕ) (zones : List Zone) (known left old mid now : Option (List ℕ)) (r : Result Found SearchError)
    → AnswersFindInAll IsIndex Refuses R d keep decides f start zones known left old mid r → Keeps mid now → AnswersFindInAll IsIndex Refuses R d keep decides f start zones known left old now r
find_kept IsIndex Refuses R d keep decides f start zones known left old mid now (Ok found) h same = record {
  written = λ was new parts. appends-kept old mid now _ (h.written was new parts) same;
  rows = h.rows;
  passed = h.passed;
  tally = h.tally;
  partial = tt;
  begun = tt;
  stops = tt;
}
find_kept IsIndex Refuses R d keep decides f start zones known left old mid now (Err fault) h same = record {
  written = tt;
  rows = tt;
  passed = tt;
  tally = tt;
  partial = λ other was new parts. let q = h.partial other was new parts in (q.0, q.1, q.2, appends-kept old mid now _ q.3 same);
  begun = λ was new parts. first-kept old mid now _ (h.begun was new parts) same;
  stops = h.stops;
}

find_failed : (IsIndex : ℕ → List Zone → List ℕ → Type 0) (Refuses : List ℕ → Cause → Type 0) (R : List ℕ → Bool) (d : ℕ) (keep : List ℕ → Bool) (decides : List ℕ → Decision) (f : ℕ → List ℕ → List ℕ) (start : ℕ) (zones : List Zone) (known left old mid now : Option (List ℕ)) (r : Result Found SearchError)
    → AnswersFindInAll IsIndex Refuses R d keep decides f start zones known left old mid r → Keeps mid now → AnswersFindInAll IsIndex Refuses R d keep decides f start zones known left old now (Err errors.Write)
find_failed IsIndex Refuses R d keep decides f start zones known left old mid now (Ok found) h same = record {
  written = tt;
  rows = tt;
  passed = tt;
  tally = tt;
  partial = λ other. absurd (other refl);
  begun = λ was new parts. first_of_all old now _ (appends-kept old mid now _ (h.written was new parts) same);
  stops = record { cut = λ e. absurd cc; far = λ e. absurd cc; refused = tt; first = tt };
}
find_failed IsIndex Refuses R d keep decides f start zones known left old mid now (Err fault) h same = record {
  written = tt;
  rows = tt;
  passed = tt;
  tally = tt;
  partial = λ other. absurd (other refl);
  begun = λ was new parts. first-kept old mid now _ (h.begun was new parts) same;
  stops = record { cut = λ e. absurd cc; far = λ e. absurd cc; refused = tt; first = tt };
}

pub find_flushed : {A : Type 0} (IsIndex : ℕ → List Zone → List ℕ → Type 0) (Refuses : List ℕ → Cause → Type 0) (R : List ℕ → Bool) (d : ℕ) (keep : List ℕ → Bool) (decides : List ℕ → Decision) (f : ℕ → List ℕ → List ℕ) (start : ℕ) (zones : List Zone) (known left old mid now : Option (List ℕ)) (r q : Result Found SearchError) (flush : Result A SearchError)
    → AnswersFindInAll IsIndex Refuses R d keep decides f start zones known left old mid r → Keeps mid now → IfErr flush (λ fault. fault ≡ errors.Write) → OnOk flush (q ≡ r) → IfErr flush (λ fault. q ≡ Err fault)
    → AnswersFindInAll IsIndex Refuses R d keep decides f start zones known left old now q
find_flushed IsIndex Refuses R d keep decides f start zones known left old mid now r q (Ok x) h same write done failed =
    subst (AnswersFindInAll IsIndex Refuses R d keep decides f start zones known left old now) (sym done) (find_kept IsIndex Refuses R d keep decides f start zones known left old mid now r h same)
find_flushed IsIndex Refuses R d keep decides f start zones known left old mid now r q (Err fault) h same write done failed =
    let is : Err errors.Write ≡ q = sym (failed ∙ ap (λ (e : SearchError). Err e) write) in
    subst (AnswersFindInAll IsIndex Refuses R d keep decides f start zones known left old now) is (find_failed IsIndex Refuses R d keep decides f start zones known left old mid now r h same)

-- ---- of a whole stream

whole_kept : (Refuses : List ℕ → Cause → Type 0) (R : List ℕ → Bool) (d : ℕ) (keep : List ℕ → Bool) (f : ℕ → List ℕ → List ℕ) (start : ℕ) (left old mid now : Option (List ℕ)) (r : Result ℕ SearchError)
    → AnswersFindWhole Refuses R d keep f start left old mid r → Keeps mid now → AnswersFindWhole Refuses R d keep f start left old now r
whole_kept Refuses R d keep f start left old mid now (Ok found) h same = record {
  written = λ bytes is. appends-kept old mid now _ (h.written bytes is) same;
  rows = h.rows;
  passed = h.passed;
  partial = tt;
  begun = tt;
  refused = tt;
  first = tt;
}
whole_kept Refuses R d keep f start left old mid now (Err fault) h same = record {
  written = tt;
  rows = tt;
  passed = tt;
  partial = λ other bytes is. let q = h.partial other bytes is in (q.0, q.1, q.2, appends-kept old mid now _ q.3 same);
  begun = λ bytes is. first-kept old mid now _ (h.begun bytes is) same;
  refused = h.refused;
  first = h.first;
}

whole_failed : (Refuses : List ℕ → Cause → Type 0) (R : List ℕ → Bool) (d : ℕ) (keep : List ℕ → Bool) (f : ℕ → List ℕ → List ℕ) (start : ℕ) (left old mid now : Option (List ℕ)) (r : Result ℕ SearchError)
    → AnswersFindWhole Refuses R d keep f start left old mid r → Keeps mid now → AnswersFindWhole Refuses R d keep f start left old now (Err errors.Write)
whole_failed Refuses R d keep f start left old mid now (Ok found) h same = record {
  written = tt;
  rows = tt;
  passed = tt;
  partial = λ other. absurd (other refl);
  begun = λ bytes is. first_of_all old now _ (appends-kept old mid now _ (h.written bytes is) same);
  refused = tt;
  first = tt;
}
whole_failed Refuses R d keep f start left old mid now (Err fault) h same = record {
  written = tt;
  rows = tt;
  passed = tt;
  partial = λ other. absurd (other refl);
  begun = λ bytes is. first-kept old mid now _ (h.begun bytes is) same;
  refused = tt;
  first = tt;
}

pub whole_flushed : {A : Type 0} (Refuses : List ℕ → Cause → Type 0) (R : List ℕ → Bool) (d : ℕ) (keep : List ℕ → Bool) (f : ℕ → List ℕ → List ℕ) (start : ℕ) (left old mid now : Option (List ℕ)) (r q : Result ℕ SearchError) (flush : Result A SearchError)
    → AnswersFindWhole Refuses R d keep f start left old mid r → Keeps mid now → IfErr flush (λ fault. fault ≡ errors.Write) → OnOk flush (q ≡ r) → IfErr flush (λ fault. q ≡ Err fault)
    → AnswersFindWhole Refuses R d keep f start left old now q
whole_flushed Refuses R d keep f start left old mid now r q (Ok x) h same write done failed =
    subst (AnswersFindWhole Refuses R d keep f start left old now) (sym done) (whole_kept Refuses R d keep f start left old mid now r h same)
whole_flushed Refuses R d keep f start left old mid now r q (Err fault) h same write done failed =
    let is : Err errors.Write ≡ q = sym (failed ∙ ap (λ (e : SearchError). Err e) write) in
    subst (AnswersFindWhole Refuses R d keep f start left old now) is (whole_failed Refuses R d keep f start left old mid now r h same)
