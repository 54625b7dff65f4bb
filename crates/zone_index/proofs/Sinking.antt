-- What a sink is given, record by record and zone by zone.
use Rattle.std.proofs.Common.{◌≡◌, ◌<◌, ◌≤◌, ◌+◌, ◌-◌, ◌^◌, min, arith, ℕ, suc, List, [], ◌∷◌, ◌++◌, Bool, true, false, not, Option, refl, sym, ap, ap₂, ◌∙◌, subst, length, take, drop, get_or, append-nil, append_assoc, add-zero, take_all, if◌then◌else◌}
use Rattle.std.proofs.KnownBytes.{Appends-nil, Appends-trans}
use Rattle.std.proofs.lemmas.Grind.{flat_map-append, take_at_read}
use Rattle.std.proofs.lemmas.List.{length-append, take-append-drop}
use Rattle.std.proofs.lemmas.List.Elements.{All-take}
use Rattle.std.proofs.lemmas.List.Sums.{sum_by-cons, sum_by_more}
use Rattle.std.specs.Io.KnownBytes.{Appends}
use Rattle.std.specs.List.{All, AllPass, concat, filter, flat_map, sum_by}
use Rattle.csv_records.specs.Lemmas.RecordLaws.{concat-records_of}
use Rattle.csv_records.specs.Records.{records_of}
use Rattle.zone_index.specs.Sinks.{IsPlain, WritesFirst, plain_record, told, written_in, written_of}
use Rattle.zone_index.specs.Zones.{IsIndexOf, IsZoneOf, found_in, zone_bytes, zone_records}
use Rattle.zone_index.specs.declared.zones.Zone.{Zone}
use Rattle.zone_index.proofs.Finding.{kept_of_zones}

-- ---- records

-- numbers that are told as the same are written as the same
pub written_told : (f : ℕ → List ℕ → List ℕ) (keep : List ℕ → Bool) (m n : ℕ) (lines : List (List ℕ)) → told m ≡ told n → written_of f keep m lines ≡ written_of f keep n lines
written_told f keep m n [] e = refl
written_told f keep m n (line ∷ lines) e =
    let next : told (m + 1) ≡ told (n + 1) = omega (arith, e) in
    ap₂ (λ (a b : List ℕ). a ++ b) (ap (λ (k : ℕ). if keep line then f k line else []) e) (written_told f keep (m + 1) (n + 1) lines next)

pub written-append : (f : ℕ → List ℕ → List ℕ) (keep : List ℕ → Bool) (n : ℕ) (xs ys : List (List ℕ)) → written_of f keep n (xs ++ ys) ≡ written_of f keep n xs ++ written_of f keep (n + length xs) ys
written-append f keep n [] ys = ap (λ (k : ℕ). written_of f keep k ys) (sym (add-zero n))
written-append f keep n (x ∷ xs) ys =
    let here : List ℕ = if keep x then f (told n) x else [] in
    let behind : n + 1 + length xs ≡ n + length (x ∷ xs) = omega arith in
    ap (λ (l : List ℕ). here ++ l) (written-append f keep (n + 1) xs ys)
    ∙ sym (append_assoc here (written_of f keep (n + 1) xs) (written_of f keep (n + 1 + length xs) ys))
    ∙ ap (λ (k : ℕ). (here ++ written_of f keep (n + 1) xs) ++ written_of f keep k ys) behind

-- a record more, which matches or not
pub given_more : (f : ℕ → List ℕ → List ℕ) (keep : List ℕ → Bool) (d e : ℕ) (rest line after taken now total : List ℕ) (n next : ℕ) (t : Bool) → e ≡ d → records_of e rest ≡ line ∷ records_of e after → keep line ≡ t → n < 2 ^ 64 → next ≡ min (n + 1) (2 ^ 64 - 1)
    → now ≡ taken ++ (if t then f n line else []) → taken ++ written_of f keep n (records_of d rest) ≡ total → now ++ written_of f keep next (records_of d after) ≡ total
given_more f keep d e rest line after taken now total n next t by cut is fits next_is now_is before =
    let others : List (List ℕ) = records_of d after in
    let parts : records_of d rest ≡ line ∷ others = subst (λ (k : ℕ). records_of k rest ≡ line ∷ records_of k after) by cut in
    let own : told n ≡ n = omega (arith, fits) in
    let later : told (n + 1) ≡ told next = omega (arith, next_is) in
    let one : (if keep line then f (told n) line else []) ≡ (if t then f n line else []) = ap (λ (b : Bool). if b then f (told n) line else []) is ∙ ap (λ (k : ℕ). if t then f k line else []) own in
    let all : written_of f keep n (records_of d rest) ≡ (if t then f n line else []) ++ written_of f keep next others = ap (written_of f keep n) parts ∙ ap₂ (λ (a b : List ℕ). a ++ b) one (written_told f keep (n + 1) next others later) in
    ap (λ (l : List ℕ). l ++ written_of f keep next others) now_is ∙ append_assoc taken (if t then f n line else []) (written_of f keep next others) ∙ ap (λ (l : List ℕ). taken ++ l) (sym all) ∙ before

-- and its number
pub number_passed : (d e : ℕ) (rest line after : List ℕ) (n next total : ℕ) → e ≡ d → records_of e rest ≡ line ∷ records_of e after → next ≡ min (n + 1) (2 ^ 64 - 1) → told (n + length (records_of d rest)) ≡ told total → told (next + length (records_of d after)) ≡ told total
number_passed d e rest line after n next total by cut next_is before =
    let parts : records_of d rest ≡ line ∷ records_of d after = subst (λ (k : ℕ). records_of k rest ≡ line ∷ records_of k after) by cut in
    let long : length (records_of d rest) ≡ 1 + length (records_of d after) = ap length parts ∙ omega arith in
    omega (arith, next_is, before, long)

-- where each record matches, all are written
pub written_all : (f : ℕ → List ℕ → List ℕ) (keep : List ℕ → Bool) (n : ℕ) (lines : List (List ℕ)) → AllPass keep lines → written_of f (λ _. true) n lines ≡ written_of f keep n lines
written_all f keep n [] h = refl
written_all f keep n (x ∷ xs) h =
    let yes : keep x ≡ true = h 0 x (omega arith) in
    rw yes (ap (λ (l : List ℕ). f (told n) x ++ l) (written_all f keep (n + 1) xs (λ k d below. h (suc k) d (omega arith))))

not_true : (b : Bool) → not b ≡ true → b ≡ false
not_true true h = cc
not_true false h = refl

-- where none matches, nothing is
pub written_none : (f : ℕ → List ℕ → List ℕ) (keep : List ℕ → Bool) (n : ℕ) (lines : List (List ℕ)) → AllPass (λ x. not (keep x)) lines → written_of f keep n lines ≡ []
written_none f keep n [] h = refl
written_none f keep n (x ∷ xs) h =
    let no : keep x ≡ false = not_true (keep x) (h 0 x (omega arith)) in
    rw no (written_none f keep (n + 1) xs (λ k d below. h (suc k) d (omega arith)))

-- ---- a beginning of what is right

pub first_none : (a : Option (List ℕ)) (bytes : List ℕ) → WritesFirst a a bytes
first_none a bytes = ([], bytes, refl, Appends-nil a)

pub first_kept : (a b : Option (List ℕ)) (bytes : List ℕ) → b ≡ a → WritesFirst a b bytes
first_kept a b bytes same = subst (λ (o : Option (List ℕ)). WritesFirst a o bytes) (sym same) (first_none a bytes)

-- all of what is in front, and a beginning of what follows
pub first_then : (a b c : Option (List ℕ)) (front back : List ℕ) → Appends a b front → WritesFirst b c back → WritesFirst a c (front ++ back)
first_then a b c front back done next =
    (front ++ next.0, next.1, ap (λ (l : List ℕ). front ++ l) next.2 ∙ sym (append_assoc front next.0 next.1), Appends-trans a b c front next.0 done next.3)

-- and more behind it
pub first_of_more : (a b : Option (List ℕ)) (front back : List ℕ) → WritesFirst a b front → WritesFirst a b (front ++ back)
first_of_more a b front back h = (h.0, h.1 ++ back, ap (λ (l : List ℕ). l ++ back) h.2 ∙ append_assoc h.0 h.1 back, h.3)

-- the same, of what a sink was given
pub first_given : (a b c : Option (List ℕ)) (taken right : List ℕ) → taken ≡ right → b ≡ a → WritesFirst b c taken → WritesFirst a c right
first_given a b c taken right is same h = subst (WritesFirst a c) is (subst (λ (o : Option (List ℕ)). WritesFirst o c taken) same h)

-- ---- records as they stand

plain_more : (f : ℕ → List ℕ → List ℕ) (keep : List ℕ → Bool) (n : ℕ) (x : List ℕ) (xs : List (List ℕ)) (t : Bool) → IsPlain f → keep x ≡ t → written_of f keep (n + 1) xs ≡ concat (filter keep xs) → written_of f keep n (x ∷ xs) ≡ concat (filter keep (x ∷ xs))
plain_more f keep n x xs true plain e others = rw e (ap₂ (λ (a b : List ℕ). a ++ b) (plain (told n) x) others)
plain_more f keep n x xs false plain e others = rw e others

pub written_plain : (f : ℕ → List ℕ → List ℕ) (keep : List ℕ → Bool) (n : ℕ) (lines : List (List ℕ)) → IsPlain f → written_of f keep n lines ≡ concat (filter keep lines)
written_plain f keep n [] plain = refl
written_plain f keep n (x ∷ xs) plain = plain_more f keep n x xs (keep x) plain refl (written_plain f keep (n + 1) xs plain)

whole_lines : (n : ℕ) (lines : List (List ℕ)) → written_of plain_record (λ _. true) n lines ≡ concat lines
whole_lines n [] = refl
whole_lines n (x ∷ xs) = ap (λ (l : List ℕ). x ++ l) (whole_lines (n + 1) xs)

pub whole_plain : (d n : ℕ) (text : List ℕ) → written_of plain_record (λ _. true) n (records_of d text) ≡ text
whole_plain d n text = whole_lines n (records_of d text) ∙ concat-records_of d text

pub kept_written : (a b : Option (List ℕ)) (f : ℕ → List ℕ → List ℕ) (keep : List ℕ → Bool) (n : ℕ) (lines : List (List ℕ)) → IsPlain f → Appends a b (written_of f keep n lines) → Appends a b (concat (filter keep lines))
kept_written a b f keep n lines plain h = subst (Appends a b) (written_plain f keep n lines plain) h

pub found_written : (a b : Option (List ℕ)) (f : ℕ → List ℕ → List ℕ) (keep : List ℕ → Bool) (n d : ℕ) (was : List ℕ) (zones : List Zone) → IsPlain f → Appends a b (written_in f keep n d was zones) → Appends a b (found_in d keep was zones)
found_written a b f keep n d was zones plain h =
    subst (Appends a b) (kept_of_zones keep (zone_records d was) zones) (kept_written a b f keep n (flat_map (zone_records d was) zones) plain h)

-- ---- zones

abbrev pub records_in : List Zone → ℕ
records_in zones = sum_by (λ z. z.records) zones

-- the number after one zone more
pub number_more : (first old new : ℕ) (zones : List Zone) (i : ℕ) (z : Zone) → i < length zones → z ≡ get_or zones i z → told old ≡ told (first + records_in (take i zones)) → new ≡ min (old + z.records) (2 ^ 64 - 1) → told new ≡ told (first + records_in (take (i + 1) zones))
number_more first old new zones i z inside is before here =
    let count_of : Zone → ℕ = λ y. y.records in
    omega (arith, before, here, ap count_of is, sum_by_more count_of zones i z inside)

records_long : (d : ℕ) (has_row : List ℕ → Bool) (Describes : List ℕ → List (List ℕ) → Type 0) (was : List ℕ) (zones : List Zone) → All (IsZoneOf d has_row Describes was) zones → length (flat_map (zone_records d was) zones) ≡ records_in zones
records_long d has_row Describes was [] right = refl
records_long d has_row Describes was (z ∷ zones) right =
    let others = records_long d has_row Describes was zones (λ k y below. right (suc k) y (omega arith)) in
    let own = (right 0 z (omega arith)).records in
    omega (arith, own, others, length-append (zone_records d was z) (flat_map (zone_records d was) zones), sum_by-cons (λ (y : Zone). y.records) z zones)

-- what is written of one zone more
written_next : (f : ℕ → List ℕ → List ℕ) (keep : List ℕ → Bool) (d : ℕ) (has_row : List ℕ → Bool) (Describes : List ℕ → List (List ℕ) → Type 0) (was : List ℕ) (zones : List Zone) (i : ℕ) (z : Zone) (first number : ℕ) → i < length zones → z ≡ get_or zones i z → All (IsZoneOf d has_row Describes was) zones → told number ≡ told (first + records_in (take i zones))
    → written_in f keep first d was (take (i + 1) zones) ≡ written_in f keep first d was (take i zones) ++ written_of f keep number (zone_records d was z)
written_next f keep d has_row Describes was zones i z first number inside is right number_is =
    let g : Zone → List (List ℕ) = zone_records d was in
    let lines : List (List ℕ) = flat_map g (take i zones) in
    let long : length lines ≡ records_in (take i zones) = records_long d has_row Describes was (take i zones) (All-take (IsZoneOf d has_row Describes was) i zones right) in
    let same : told (first + length lines) ≡ told number = ap (λ (n : ℕ). told (first + n)) long ∙ sym number_is in
    let whole : flat_map g (take (i + 1) zones) ≡ lines ++ g z = ap (flat_map g) (take_at_read zones i z inside).1 ∙ flat_map-append g (take i zones) (get_or zones i z ∷ []) ∙ ap (λ (l : List (List ℕ)). lines ++ l) (append-nil (g (get_or zones i z))) ∙ ap (λ (y : Zone). lines ++ g y) (sym is) in
    ap (written_of f keep first) whole ∙ written-append f keep first lines (g z) ∙ ap (λ (l : List ℕ). written_of f keep first lines ++ l) (written_told f keep (first + length lines) number (g z) same)

-- one zone more
pub written_more : (a b c : Option (List ℕ)) (f : ℕ → List ℕ → List ℕ) (keep : List ℕ → Bool) (d : ℕ) (has_row : List ℕ → Bool) (Describes : List ℕ → List (List ℕ) → Type 0) (was : List ℕ) (zones : List Zone) (i : ℕ) (z : Zone) (first number : ℕ) → i < length zones → z ≡ get_or zones i z → All (IsZoneOf d has_row Describes was) zones → told number ≡ told (first + records_in (take i zones))
    → Appends a b (written_in f keep first d was (take i zones)) → Appends b c (written_of f keep number (zone_records d was z)) → Appends a c (written_in f keep first d was (take (i + 1) zones))
written_more a b c f keep d has_row Describes was zones i z first number inside is right number_is before here =
    subst (Appends a c) (sym (written_next f keep d has_row Describes was zones i z first number inside is right number_is)) (Appends-trans a b c (written_in f keep first d was (take i zones)) (written_of f keep number (zone_records d was z)) before here)

-- what is written of the zones begins with what is of the first ones
written_front : (f : ℕ → List ℕ → List ℕ) (keep : List ℕ → Bool) (first d : ℕ) (was : List ℕ) (zones : List Zone) (n : ℕ) → (back : List ℕ) × (written_in f keep first d was zones ≡ written_in f keep first d was (take n zones) ++ back)
written_front f keep first d was zones n =
    let g : Zone → List (List ℕ) = zone_records d was in
    let front : List (List ℕ) = flat_map g (take n zones) in
    let back : List (List ℕ) = flat_map g (drop n zones) in
    let parts : flat_map g zones ≡ front ++ back = ap (flat_map g) (sym (take-append-drop n zones)) ∙ flat_map-append g (take n zones) (drop n zones) in
    (written_of f keep (first + length front) back, ap (written_of f keep first) parts ∙ written-append f keep first front back)

-- a beginning of one zone more is one of all
pub first_in_zone : (a b c : Option (List ℕ)) (f : ℕ → List ℕ → List ℕ) (keep : List ℕ → Bool) (d : ℕ) (has_row : List ℕ → Bool) (Describes : List ℕ → List (List ℕ) → Type 0) (was : List ℕ) (zones : List Zone) (i : ℕ) (z : Zone) (first number : ℕ) → i < length zones → z ≡ get_or zones i z → All (IsZoneOf d has_row Describes was) zones → told number ≡ told (first + records_in (take i zones))
    → Appends a b (written_in f keep first d was (take i zones)) → WritesFirst b c (written_of f keep number (zone_records d was z)) → WritesFirst a c (written_in f keep first d was zones)
first_in_zone a b c f keep d has_row Describes was zones i z first number inside is right number_is before here =
    let next : WritesFirst a c (written_in f keep first d was (take (i + 1) zones)) =
    subst (WritesFirst a c) (sym (written_next f keep d has_row Describes was zones i z first number inside is right number_is)) (first_then a b c (written_in f keep first d was (take i zones)) (written_of f keep number (zone_records d was z)) before here) in
    let parts = written_front f keep first d was zones (i + 1) in
    subst (WritesFirst a c) (sym parts.1) (first_of_more a c (written_in f keep first d was (take (i + 1) zones)) parts.0 next)

-- all of it is one
pub first_of_all : (a b : Option (List ℕ)) (bytes : List ℕ) → Appends a b bytes → WritesFirst a b bytes
first_of_all a b bytes h = (bytes, [], sym (append-nil bytes), h)

-- after the last zone
pub written_whole : (a b : Option (List ℕ)) (f : ℕ → List ℕ → List ℕ) (keep : List ℕ → Bool) (d : ℕ) (has_row : List ℕ → Bool) (Describes : List ℕ → List (List ℕ) → Type 0) (start first : ℕ) (zones : List Zone) (was : List ℕ) (i : ℕ) → length zones ≤ i → IsIndexOf d has_row Describes start zones was
    → Appends a b (written_in f keep first d was (take i zones)) → Appends a b (written_of f keep first (records_of d (drop start was)))
written_whole a b f keep d has_row Describes start first zones was i ended index before =
    subst (Appends a b) (ap (written_in f keep first d was) (take_all i zones ended) ∙ ap (written_of f keep first) (sym index.records)) before

-- ---- what is written of a zone

pub zone_skipped : (a : Option (List ℕ)) (f : ℕ → List ℕ → List ℕ) (keep : List ℕ → Bool) (d n : ℕ) (was : List ℕ) (z : Zone) → AllPass (λ x. not (keep x)) (zone_records d was z) → Appends a a (written_of f keep n (zone_records d was z))
zone_skipped a f keep d n was z none = subst (Appends a a) (sym (written_none f keep n (zone_records d was z) none)) (Appends-nil a)

taken_copied : (f : ℕ → List ℕ → List ℕ) (keep : List ℕ → Bool) (d e n : ℕ) (was text taken : List ℕ) (z : Zone) → AllPass keep (zone_records d was z) → e ≡ d → text ≡ zone_bytes was z → taken ≡ written_of f (λ _. true) n (records_of e text) → taken ≡ written_of f keep n (zone_records d was z)
taken_copied f keep d e n was text taken z all by is taken_is =
    taken_is ∙ ap₂ (λ (k : ℕ) (l : List ℕ). written_of f (λ _. true) n (records_of k l)) by is ∙ written_all f keep n (zone_records d was z) all

taken_searched : (f : ℕ → List ℕ → List ℕ) (keep : List ℕ → Bool) (d n : ℕ) (was text view taken : List ℕ) (z : Zone) → view ≡ text → text ≡ zone_bytes was z → taken ≡ written_of f keep n (records_of d view) → taken ≡ written_of f keep n (zone_records d was z)
taken_searched f keep d n was text view taken z viewed is taken_is = taken_is ∙ ap (λ (l : List ℕ). written_of f keep n (records_of d l)) (viewed ∙ is)

pub zone_copied : (a b c : Option (List ℕ)) (f : ℕ → List ℕ → List ℕ) (keep : List ℕ → Bool) (d e n : ℕ) (was text taken : List ℕ) (z : Zone) → AllPass keep (zone_records d was z) → e ≡ d → text ≡ zone_bytes was z → taken ≡ written_of f (λ _. true) n (records_of e text) → b ≡ a → Appends b c taken → Appends a c (written_of f keep n (zone_records d was z))
zone_copied a b c f keep d e n was text taken z all by is taken_is same h =
    subst (λ (o : Option (List ℕ)). Appends o c (written_of f keep n (zone_records d was z))) same (subst (Appends b c) (taken_copied f keep d e n was text taken z all by is taken_is) h)

pub first_copied : (a b c : Option (List ℕ)) (f : ℕ → List ℕ → List ℕ) (keep : List ℕ → Bool) (d e n : ℕ) (was text taken : List ℕ) (z : Zone) → AllPass keep (zone_records d was z) → e ≡ d → text ≡ zone_bytes was z → taken ≡ written_of f (λ _. true) n (records_of e text) → b ≡ a → WritesFirst b c taken → WritesFirst a c (written_of f keep n (zone_records d was z))
first_copied a b c f keep d e n was text taken z all by is taken_is same h = first_given a b c taken (written_of f keep n (zone_records d was z)) (taken_copied f keep d e n was text taken z all by is taken_is) same h

pub zone_searched : (a b c : Option (List ℕ)) (f : ℕ → List ℕ → List ℕ) (keep : List ℕ → Bool) (d n : ℕ) (was text view taken : List ℕ) (z : Zone) → view ≡ text → text ≡ zone_bytes was z → taken ≡ written_of f keep n (records_of d view) → b ≡ a → Appends b c taken → Appends a c (written_of f keep n (zone_records d was z))
zone_searched a b c f keep d n was text view taken z viewed is taken_is same h =
    subst (λ (o : Option (List ℕ)). Appends o c (written_of f keep n (zone_records d was z))) same (subst (Appends b c) (taken_searched f keep d n was text view taken z viewed is taken_is) h)

pub first_searched : (a b c : Option (List ℕ)) (f : ℕ → List ℕ → List ℕ) (keep : List ℕ → Bool) (d n : ℕ) (was text view taken : List ℕ) (z : Zone) → view ≡ text → text ≡ zone_bytes was z → taken ≡ written_of f keep n (records_of d view) → b ≡ a → WritesFirst b c taken → WritesFirst a c (written_of f keep n (zone_records d was z))
first_searched a b c f keep d n was text view taken z viewed is taken_is same h = first_given a b c taken (written_of f keep n (zone_records d was z)) (taken_searched f keep d n was text view taken z viewed is taken_is) same h
