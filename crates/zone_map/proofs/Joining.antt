-- The records of zones, and those behind them.
use Rattle.std.proofs.Common.{◌≡◌, ◌≢◌, ◌≤◌, ◌<◌, ◌+◌, ◌-◌, ◌^◌, min, arith, ℕ, suc, List, [], ◌∷◌, ◌++◌, Bool, Option, None, Some, IfSome, refl, sym, ap, ap₂, ◌∙◌, subst, length, take, drop, append_assoc, append-nil, if◌then◌else◌}
use Rattle.std.proofs.KnownBytes.{Appends-trans}
use Rattle.std.proofs.lemmas.Grind.{flat_map-append}
use Rattle.std.proofs.lemmas.List.{length-append, length-drop, take-append-drop}
use Rattle.std.proofs.lemmas.List.Sums.{sum_by-append, sum_by-cons}
use Rattle.std.proofs.lemmas.Option.{none-some, same_Some}
use Rattle.std.specs.Io.KnownBytes.{Appends}
use Rattle.std.specs.List.{All, concat, count_by, flat_map, sum_by}
use Rattle.std.specs.Prelude.{slice_get}
use Rattle.csv_records.specs.Lemmas.RecordLaws.{concat-records_of}
use Rattle.csv_records.specs.Records.{records_of}
use Rattle.zone_index.specs.Answers.{StopsRightly}
use Rattle.zone_index.specs.Errors.{EndsFar, IfRefused, TellsOffset, TellsOneOf, before_refused}
use Rattle.zone_index.specs.Sinks.{WritesFirst, told, written_in, written_of}
use Rattle.zone_index.specs.Zones.{Follow, IsIndexOf, IsZoneOf, offset_or, refused_in, zone_records}
use Rattle.zone_index.specs.declared.errors.Cause.{Cause}
use Rattle.zone_index.specs.declared.errors.Refusal.{Refusal}
use Rattle.zone_index.specs.declared.errors.SearchError.{SearchError}
use Rattle.zone_index.specs.declared.errors.SearchError.TheVariants as errors
use Rattle.zone_index.specs.declared.zones.Zone.{Zone}
use Rattle.zone_index.proofs.Refusing.{told_among}
use Rattle.zone_index.proofs.Sinking.{first_of_more, first_then, records_in, written-append, written_told}
use Rattle.zone_map.specs.Answers.{AreParts, StopsInAll, all_records, refused_of_all}

-- ---- where zones end

pub last_end : (start end : ℕ) (zones : List Zone) (z : Zone) → slice_get zones (length zones - 1) ≡ Some z → Follow start zones end → z.first + z.length ≡ end
last_end start end [] z at h = absurd (none-some z at)
last_end start end (y ∷ []) z at h =
    let same : y ≡ z = same_Some y z at in
    subst (λ (x : Zone). x.first + x.length ≡ end) same (omega (arith, h.0, h.1))
last_end start end (y ∷ x ∷ zones) z at h =
    let behind : length (y ∷ x ∷ zones) - 1 ≡ suc (length (x ∷ zones) - 1) = omega arith in
    last_end (start + y.length) end (x ∷ zones) z (subst (λ (n : ℕ). slice_get (y ∷ x ∷ zones) n ≡ Some z) behind at) h.1

pub follow_long : (start end : ℕ) (zones : List Zone) → Follow start zones end → start ≤ end
follow_long start end [] h = omega (arith, h)
follow_long start end (z ∷ zones) h = omega (arith, follow_long (start + z.length) end zones h.1)

-- ---- numbers

records_long : (d : ℕ) (has_row : List ℕ → Bool) (Describes : List ℕ → List (List ℕ) → Type 0) (was : List ℕ) (zones : List Zone) → All (IsZoneOf d has_row Describes was) zones → length (flat_map (zone_records d was) zones) ≡ records_in zones
records_long d has_row Describes was [] right = refl
records_long d has_row Describes was (z ∷ zones) right =
    let others = records_long d has_row Describes was zones (λ k y below. right (suc k) y (omega arith)) in
    let own = (right 0 z (omega arith)).records in
    omega (arith, own, others, length-append (zone_records d was z) (flat_map (zone_records d was) zones), sum_by-cons (λ (y : Zone). y.records) z zones)

-- the number after the zones is the one after their records
pub after_zones : (d : ℕ) (has_row : List ℕ → Bool) (Describes : List ℕ → List (List ℕ) → Type 0) (start first number : ℕ) (zones : List Zone) (was : List ℕ) → IsIndexOf d has_row Describes start zones was → number ≡ told (first + records_in zones)
    → told number ≡ told (first + length (records_of d (drop start was)))
after_zones d has_row Describes start first number zones was index number_is =
    let long = ap length index.records ∙ records_long d has_row Describes was zones index.right in
    omega (arith, long, number_is)

-- ---- what is written

parts_written : (f : ℕ → List ℕ → List ℕ) (keep : List ℕ → Bool) (first number : ℕ) (front back : List (List ℕ)) → told number ≡ told (first + length front) → written_of f keep first (front ++ back) ≡ written_of f keep first front ++ written_of f keep number back
parts_written f keep first number front back on =
    written-append f keep first front back ∙ ap (λ (l : List ℕ). written_of f keep first front ++ l) (written_told f keep (first + length front) number back (sym on))

pub both_written : (a b c : Option (List ℕ)) (f : ℕ → List ℕ → List ℕ) (keep : List ℕ → Bool) (first number : ℕ) (front back : List (List ℕ)) → told number ≡ told (first + length front)
    → Appends a b (written_of f keep first front) → Appends b c (written_of f keep number back) → Appends a c (written_of f keep first (front ++ back))
both_written a b c f keep first number front back on h more =
    subst (Appends a c) (sym (parts_written f keep first number front back on)) (Appends-trans a b c (written_of f keep first front) (written_of f keep number back) h more)

pub first_of_both : (a b : Option (List ℕ)) (f : ℕ → List ℕ → List ℕ) (keep : List ℕ → Bool) (first : ℕ) (front back : List (List ℕ)) → WritesFirst a b (written_of f keep first front) → WritesFirst a b (written_of f keep first (front ++ back))
first_of_both a b f keep first front back h =
    subst (WritesFirst a b) (sym (written-append f keep first front back)) (first_of_more a b (written_of f keep first front) (written_of f keep (first + length front) back) h)

pub then_first : (a b c : Option (List ℕ)) (f : ℕ → List ℕ → List ℕ) (keep : List ℕ → Bool) (first number : ℕ) (front back : List (List ℕ)) → told number ≡ told (first + length front)
    → Appends a b (written_of f keep first front) → WritesFirst b c (written_of f keep number back) → WritesFirst a c (written_of f keep first (front ++ back))
then_first a b c f keep first number front back on h more =
    subst (WritesFirst a c) (sym (parts_written f keep first number front back on)) (first_then a b c (written_of f keep first front) (written_of f keep number back) h more)

-- after an error those of the first records were written: of the zones
pub some_of_zones : (a b : Option (List ℕ)) (f : ℕ → List ℕ → List ℕ) (keep : List ℕ → Bool) (d : ℕ) (has_row : List ℕ → Bool) (Describes : List ℕ → List (List ℕ) → Type 0) (start first : ℕ) (zones : List Zone) (was new : List ℕ) → IsIndexOf d has_row Describes start zones was
    → (k : ℕ) × Appends a b (written_in f keep first d was (take k zones)) → (front others : List (List ℕ)) × (all_records d start was new ≡ front ++ others) × Appends a b (written_of f keep first front)
some_of_zones a b f keep d has_row Describes start first zones was new index h =
    let g : Zone → List (List ℕ) = zone_records d was in
    let front : List (List ℕ) = flat_map g (take h.0 zones) in
    let back : List (List ℕ) = flat_map g (drop h.0 zones) in
    let parts : flat_map g zones ≡ front ++ back = ap (flat_map g) (sym (take-append-drop h.0 zones)) ∙ flat_map-append g (take h.0 zones) (drop h.0 zones) in
    let all : all_records d start was new ≡ front ++ (back ++ records_of d new) = ap (λ (l : List (List ℕ)). l ++ records_of d new) (index.records ∙ parts) ∙ append_assoc front back (records_of d new) in
    (front, back ++ records_of d new, all, h.1)

-- of what is new
pub some_of_new : (a b c : Option (List ℕ)) (f : ℕ → List ℕ → List ℕ) (keep : List ℕ → Bool) (d start first number : ℕ) (was new : List ℕ) → told number ≡ told (first + length (records_of d (drop start was))) → Appends a b (written_of f keep first (records_of d (drop start was)))
    → (some others : List (List ℕ)) × (records_of d new ≡ some ++ others) × Appends b c (written_of f keep number some) → (front others : List (List ℕ)) × (all_records d start was new ≡ front ++ others) × Appends a c (written_of f keep first front)
some_of_new a b c f keep d start first number was new on done h =
    let front : List (List ℕ) = records_of d (drop start was) in
    (front ++ h.0, h.1, ap (λ (l : List (List ℕ)). front ++ l) h.2 ∙ sym (append_assoc front h.0 h.1), both_written a b c f keep first number front h.0 on done h.3)

-- ---- how many they are

count-append : (keep : List ℕ → Bool) (xs ys : List (List ℕ)) → count_by keep (xs ++ ys) ≡ count_by keep xs + count_by keep ys
count-append keep xs ys = sum_by-append (λ (x : List ℕ). if keep x then 1 else 0) xs ys

pub both_counted : (keep : List ℕ → Bool) (front back : List (List ℕ)) (known more all : ℕ) → told known ≡ told (count_by keep front) → more ≡ count_by keep back → all ≡ min (known + more) (2 ^ 64 - 1) → all ≡ told (count_by keep (front ++ back))
both_counted keep front back known more all known_is more_is all_is = omega (arith, known_is, more_is, all_is, count-append keep front back)

-- ---- which record is refused

pub none_refused : (n : ℕ) (o q : Option ℕ) → o ≡ None → q ≡ None → offset_or 0 o (offset_or n q None) ≡ None
none_refused n o q first second = rw (first, second) refl

told_first : (o other : Option ℕ) (r : Refusal) → TellsOffset 0 o r → TellsOffset 0 (offset_or 0 o other) r
told_first None other r h = absurd h
told_first (Some n) other r h = omega (arith, h)

told_behind : (long place : ℕ) (o q : Option ℕ) (r : Refusal) → place ≡ told long → o ≡ None → TellsOffset place q r → TellsOffset 0 (offset_or 0 o (offset_or long q None)) r
told_behind long place o None r place_is none h = absurd h
told_behind long place o (Some n) r place_is none h = rw none (omega (arith, h, place_is))

-- what is told holds if something else that is told does
if_refused : (P Q : Refusal → Type 0) (f : SearchError) → ((r : Refusal) → P r → Q r) → IfRefused P f → IfRefused Q f
if_refused P Q (errors.Refused r) more h = more r h
if_refused P Q errors.Read more h = tt
if_refused P Q errors.CutShort more h = tt
if_refused P Q errors.TooFar more h = tt
if_refused P Q errors.Write more h = tt
if_refused P Q errors.Memory more h = tt

if_some : (P Q : List ℕ → Type 0) (o : Option (List ℕ)) → ((x : List ℕ) → P x → Q x) → IfSome o P → IfSome o Q
if_some P Q None more h = tt
if_some P Q (Some x) more h = more x h

-- ---- why it stops

pub stops_in_zones : (d : ℕ) (has_row : List ℕ → Bool) (Describes : List ℕ → List (List ℕ) → Type 0) (Refuses : List ℕ → Cause → Type 0) (is_refused : List ℕ → Bool) (is_read : Zone → Bool) (start : ℕ) (zones : List Zone) (known left : Option (List ℕ)) (f : SearchError)
    → StopsRightly (IsIndexOf d has_row Describes) Refuses is_refused is_read d zones known f → StopsInAll (IsIndexOf d has_row Describes) Refuses is_refused is_read d start zones known left f
stops_in_zones d has_row Describes Refuses is_refused is_read start zones known left f h = record {
  cut = λ e. if_some _ _ known (λ bytes short was index. short was start index) (h.cut e);
  far = λ e was new parts. omega (arith, h.far e was start parts.right);
  refused = if_refused _ _ f (λ r one was new parts. told_among Refuses start start [] (records_of d (drop start was)) (records_of d new) r (λ n. omega arith) (one was start parts.held parts.right)) h.refused;
  first = if_refused _ _ f (λ r one was new parts. told_first (refused_in is_refused is_read (zone_records d was) zones) (offset_or (length was) (before_refused is_refused (records_of d new)) None) r (one was start parts.held parts.right)) h.first;
}

-- one of what is new is one of all
among : (d : ℕ) (has_row : List ℕ → Bool) (Describes : List ℕ → List (List ℕ) → Type 0) (Refuses : List ℕ → Cause → Type 0) (start place : ℕ) (zones : List Zone) (was new : List ℕ) (r : Refusal) → IsIndexOf d has_row Describes start zones was
    → place ≡ told (length was) → TellsOneOf Refuses place (records_of d new) r → TellsOneOf Refuses start (all_records d start was new) r
among d has_row Describes Refuses start place zones was new r index place_is one =
    let front : List (List ℕ) = records_of d (drop start was) in
    let long : length (concat front) ≡ length was - start = ap length (concat-records_of d (drop start was)) ∙ length-drop start was in
    let within : start ≤ length was = follow_long start (length was) zones index.follow in
    subst (λ (l : List (List ℕ)). TellsOneOf Refuses start (front ++ l) r) (append-nil (records_of d new))
    (told_among Refuses start place front (records_of d new) [] r (λ n. omega (arith, long, within, place_is)) one)

pub stops_in_new : (d : ℕ) (has_row : List ℕ → Bool) (Describes : List ℕ → List (List ℕ) → Type 0) (Refuses : List ℕ → Cause → Type 0) (is_refused : List ℕ → Bool) (is_read : Zone → Bool) (start place : ℕ) (zones : List Zone) (known left : Option (List ℕ)) (f : SearchError)
    → ((end : ℕ) → Follow start zones end → place ≡ told end)
    → ((was new : List ℕ) → AreParts (IsIndexOf d has_row Describes) start zones known left was new → refused_in is_refused is_read (zone_records d was) zones ≡ None)
    → f ≢ errors.CutShort → (f ≡ errors.TooFar → EndsFar 0 left)
    → IfRefused (λ r. (bytes : List ℕ) → left ≡ Some bytes → TellsOneOf Refuses place (records_of d bytes) r) f
    → IfRefused (λ r. (bytes : List ℕ) → left ≡ Some bytes → TellsOffset place (before_refused is_refused (records_of d bytes)) r) f
    → StopsInAll (IsIndexOf d has_row Describes) Refuses is_refused is_read d start zones known left f
stops_in_new d has_row Describes Refuses is_refused is_read start place zones known left f ends passed uncut far refused first = record {
  cut = λ e. absurd (uncut e);
  far = λ e was new parts. omega (arith, far e new parts.is);
  refused = if_refused _ _ f (λ r one was new parts. among d has_row Describes Refuses start place zones was new r parts.right (ends (length was) parts.right.follow) (one new parts.is)) refused;
  first = if_refused _ _ f (λ r one was new parts. told_behind (length was) place (refused_in is_refused is_read (zone_records d was) zones) (before_refused is_refused (records_of d new)) r (ends (length was) parts.right.follow) (passed was new parts) (one new parts.is)) first;
}
