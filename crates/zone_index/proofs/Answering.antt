-- What is read and written of a zone.
use Rattle.std.proofs.Common.{◌≡◌, ◌≤◌, ◌+◌, ℕ, suc, zero, List, [], ◌∷◌, ◌++◌, ◌==◌, ◌&&◌, Bool, true, false, not, cond, Option, refl, sym, ap, ◌∙◌, subst, length, take, drop, arith}
use Rattle.std.proofs.lemmas.Bool.Decides.{nat_tests}
use Rattle.std.proofs.lemmas.List.{drop-take, length-take, length-drop, take-take}
use Rattle.std.proofs.lemmas.List.Sums.{count_by-le-length, length-filter, sum_by-cons}
use Rattle.std.specs.Prelude.{IfOk, IfSome, Result, Ok, Err}
use lib.Seq.{take-append_seam}
use Rattle.std.specs.List.{AllPass, count_by, filter, onto_first}
use Rattle.csv.specs.Machine.{step}
use Rattle.csv.specs.declared.parser.State.{State}
use Rattle.csv.specs.declared.parser.State.TheVariants as st
use Rattle.csv_records.specs.Records.{is_start, records_from, records_of}
use Rattle.csv_records.specs.Rows.{config_of}
use Rattle.zone_index.specs.Asking.{Asks, AsksWithin, IsWithin}
use Rattle.zone_index.specs.Records.{HasRowIf, HaveRowsIf, is_same}
use Rattle.zone_index.specs.Zones.{Agree, AsksInPart, AsksOfZone, IsHeld, IsZoneOf, is_open, is_skip, way_of, zone_bytes, zone_records}
use Rattle.zone_index.specs.declared.errors.SearchError.{SearchError}
use Rattle.zone_index.specs.declared.read_at.Asked.{Asked}
use Rattle.zone_index.specs.declared.records.Decision.{Decision}
use Rattle.zone_index.specs.declared.zones.Way.{Way}
use Rattle.zone_index.specs.declared.zones.Zone.{Zone}
use Rattle.zone_index.proofs.Asking.{asks_more}

same_piece : (bytes was : List ℕ) (f n : ℕ) → Agree bytes was → f + n ≤ length was → f + n ≤ length bytes → take n (drop f bytes) ≡ take n (drop f was)
same_piece bytes was f n agree p q =
    sym (drop-take f n bytes)
    ∙ ap (drop f) (sym (take-take (f + n) (length was) bytes p) ∙ ap (take (f + n)) agree ∙ take-take (f + n) (length bytes) was q)
    ∙ drop-take f n was

long_piece : (bytes was : List ℕ) (f n : ℕ) → Agree bytes was → f + n ≤ length was → length (take n (drop f bytes)) ≡ n → take n (drop f bytes) ≡ take n (drop f was)
long_piece bytes was f zero agree p long = refl
long_piece bytes was f (suc n) agree p long =
    same_piece bytes was f (suc n) agree p (omega (arith, length-take (suc n) (drop f bytes), length-drop f bytes))

-- the same bytes at the same offset
held_piece : (known : Option (List ℕ)) (was piece : List ℕ) (z : Zone) (held : IsHeld known was) → z.first + z.length ≤ length was → piece ≡ take z.length (drop z.first held.bytes) → length piece ≡ z.length → piece ≡ zone_bytes was z
held_piece known was piece z held inside is long =
    is ∙ long_piece held.bytes was z.first z.length held.agree inside (sym (ap length is) ∙ long)

pub filled_piece : (known : Option (List ℕ)) (was into items : List ℕ) (n len : ℕ) (z : Zone) → IsHeld known was → z.first + z.length ≤ length was → IfSome known (λ xs. into ≡ take n (drop z.first xs)) → length into ≡ n → n ≡ z.length → len ≡ z.length → take len (into ++ drop (length into) items) ≡ zone_bytes was z
filled_piece known was into items n len z held inside filled long same same_len =
    let is : into ≡ take n (drop z.first held.bytes) = subst (λ (o : Option (List ℕ)). IfSome o (λ xs. into ≡ take n (drop z.first xs))) held.is filled in
    let piece : into ≡ zone_bytes was z = held_piece known was into z held inside (is ∙ ap (λ m. take m (drop z.first held.bytes)) same) (long ∙ same) in
    ap (λ m. take m (into ++ drop (length into) items)) (same_len ∙ sym same ∙ sym long) ∙ take-append_seam into (drop (length into) items) ∙ piece

-- ---- records that match

filter_all : (p : List ℕ → Bool) (xs : List (List ℕ)) → AllPass p xs → filter p xs ≡ xs
filter_all p [] h = refl
filter_all p (x ∷ xs) h = rw (h 0 x (omega arith), filter_all p xs (λ k d below. h (suc k) d (omega arith))) refl

not_true : (b : Bool) → not b ≡ true → b ≡ false
not_true true h = cc
not_true false h = refl

filter_none : (p : List ℕ → Bool) (xs : List (List ℕ)) → AllPass (λ x. not (p x)) xs → filter p xs ≡ []
filter_none p [] h = refl
filter_none p (x ∷ xs) h =
    let no : p x ≡ false = not_true (p x) (h 0 x (omega arith)) in
    rw (no, filter_none p xs (λ k d below. h (suc k) d (omega arith))) refl

-- each record that has a row matches, and each has one
both_true : (m h : Bool) → is_same m h ≡ true → h ≡ true → m ≡ true
both_true true h p q = refl
both_true false h p q = absurd cc

first_counts : (p : List ℕ → Bool) (x : List ℕ) (xs : List (List ℕ)) (b : Bool) → p x ≡ b → count_by p (x ∷ xs) ≡ length (x ∷ xs) → (b ≡ true) × (count_by p xs ≡ length xs)
first_counts p x xs true e h =
    let one : count_by p (x ∷ xs) ≡ 1 + count_by p xs = sum_by-cons (λ (y : List ℕ). cond (p y) 1 0) x xs ∙ ap (λ (b : Bool). cond b 1 0 + count_by p xs) e in
    (refl, omega arith)
first_counts p x xs false e h =
    let one : count_by p (x ∷ xs) ≡ 0 + count_by p xs = sum_by-cons (λ (y : List ℕ). cond (p y) 1 0) x xs ∙ ap (λ (b : Bool). cond b 1 0 + count_by p xs) e in
    absurd (omega (arith, count_by-le-length p xs))

pub all_match : (has keep : List ℕ → Bool) (xs : List (List ℕ)) → AllPass (λ x. is_same (keep x) (has x)) xs → count_by has xs ≡ length xs → AllPass keep xs
all_match has keep [] same all k d below = absurd (omega arith)
all_match has keep (x ∷ xs) same all zero d below = both_true (keep x) (has x) (same 0 d (omega arith)) (first_counts has x xs (has x) refl all).0
all_match has keep (x ∷ xs) same all (suc k) d below = all_match has keep xs (λ i e under. same (suc i) e (omega arith)) (first_counts has x xs (has x) refl all).1 k d (omega arith)

-- ---- records that have rows

all_rows : (has : List ℕ → Bool) (xs : List (List ℕ)) → count_by has xs ≡ length xs → AllPass has xs
all_rows has [] all k d below = absurd (omega arith)
all_rows has (x ∷ xs) all zero d below = (first_counts has x xs (has x) refl all).0
all_rows has (x ∷ xs) all (suc k) d below = all_rows has xs (first_counts has x xs (has x) refl all).1 k d (omega arith)

pub same_count : (b : Bool) (n m : ℕ) → b ≡ (n == m) → b ≡ true → n ≡ m
same_count b n m is same = grind (arith, nat_tests)

-- where a zone has as many rows as records, each record has one
pub rows_of_zone : (b : Bool) (d : ℕ) (has_row : List ℕ → Bool) (Describes : List ℕ → List (List ℕ) → Type 0) (was : List ℕ) (z : Zone) → b ≡ (z.records == z.rows) → IsZoneOf d has_row Describes was z → HaveRowsIf b has_row (zone_records d was z)
rows_of_zone true d has_row Describes was z is zone =
    all_rows has_row (zone_records d was z) (sym zone.rows ∙ sym (same_count true z.records z.rows is refl) ∙ zone.records)
rows_of_zone false d has_row Describes was z is zone = tt

-- the same of the bytes that were read
pub rows_of_piece : (b : Bool) (d : ℕ) (has_row : List ℕ → Bool) (Describes : List ℕ → List (List ℕ) → Type 0) (was piece view : List ℕ) (z : Zone) → b ≡ (z.records == z.rows) → IsZoneOf d has_row Describes was z → view ≡ piece → piece ≡ zone_bytes was z → HaveRowsIf b has_row (records_of d view)
rows_of_piece b d has_row Describes was piece view z is zone viewed read =
    subst (λ (l : List ℕ). HaveRowsIf b has_row (records_of d l)) (sym (viewed ∙ read)) (rows_of_zone b d has_row Describes was z is zone)

-- the first record of a text, and those behind it
pub row_here : (b : Bool) (has_row : List ℕ → Bool) (d e : ℕ) (rest line after : List ℕ) → e ≡ d → records_of e rest ≡ line ∷ records_of e after → HaveRowsIf b has_row (records_of d rest) → HasRowIf b (has_row line)
row_here true has_row d e rest line after by cut h =
    let own : records_of d rest ≡ line ∷ records_of d after = subst (λ (n : ℕ). records_of n rest ≡ line ∷ records_of n after) by cut in
    subst (AllPass has_row) own h 0 line (omega arith)
row_here false has_row d e rest line after by cut h = tt

pub rows_after : (b : Bool) (has_row : List ℕ → Bool) (d e : ℕ) (rest line after : List ℕ) → e ≡ d → records_of e rest ≡ line ∷ records_of e after → HaveRowsIf b has_row (records_of d rest) → HaveRowsIf b has_row (records_of d after)
rows_after true has_row d e rest line after by cut h =
    let own : records_of d rest ≡ line ∷ records_of d after = subst (λ (n : ℕ). records_of n rest ≡ line ∷ records_of n after) by cut in
    λ k x below. subst (AllPass has_row) own h (suc k) x (omega arith)
rows_after false has_row d e rest line after by cut h = tt

-- so many of the records of a zone match as of the bytes that were read
pub zone_counted : (b : Bool) (d : ℕ) (has_row keep : List ℕ → Bool) (Describes : List ℕ → List (List ℕ) → Type 0) (known : Option (List ℕ)) (piece view : List ℕ) (z : Zone) (r : Result ℕ SearchError) → b ≡ (z.records == z.rows) → view ≡ piece
    → ((was : List ℕ) → IsHeld known was → z.first + z.length ≤ length was → piece ≡ zone_bytes was z) → IfOk r (λ n. HaveRowsIf b has_row (records_of d view) → n ≡ count_by keep (records_of d view))
    → IfOk r (λ n. (was : List ℕ) → IsHeld known was → IsZoneOf d has_row Describes was z → n ≡ count_by keep (zone_records d was z))
zone_counted b d has_row keep Describes known piece view z (Ok n) is viewed read h = λ was held zone.
    let here : piece ≡ zone_bytes was z = read was held zone.inside in
    h (rows_of_piece b d has_row Describes was piece view z is zone viewed here) ∙ ap (λ (l : List ℕ). count_by keep (records_of d l)) (viewed ∙ here)
zone_counted b d has_row keep Describes known piece view z (Err e) is viewed read h = tt

-- ---- what was asked for

pub not_skipped : (decides : List ℕ → Decision) (z : Zone) (w : Way) (a b : Option (List Asked)) → w ≡ way_of decides z → is_skip w ≡ false → AsksWithin a b z.first (z.first + z.length) → Asks (AsksOfZone decides z) a b
not_skipped decides z w a b is other h =
    asks_more (IsWithin z.first (z.first + z.length)) (AsksOfZone decides z) a b (λ x within. (ap is_skip (sym is) ∙ other, within)) h

pub undecided : (decides : List ℕ → Decision) (z : Zone) (d : Decision) (a b : Option (List Asked)) → d ≡ decides z.statistics.items → is_open d ≡ true → AsksWithin a b z.first (z.first + z.length) → Asks (AsksInPart decides z) a b
undecided decides z d a b is other h =
    asks_more (IsWithin z.first (z.first + z.length)) (AsksInPart decides z) a b (λ x within. (ap is_open (sym is) ∙ other, within)) h

-- ---- counting

none_counted : (p : List ℕ → Bool) (xs : List (List ℕ)) → AllPass (λ x. not (p x)) xs → count_by p xs ≡ 0
none_counted p xs h = sym (length-filter p xs) ∙ ap length (filter_none p xs h)

pub none_match : (d : ℕ) (keep : List ℕ → Bool) (was : List ℕ) (z : Zone) → AllPass (λ x. not (keep x)) (zone_records d was z) → 0 ≡ count_by keep (zone_records d was z)
none_match d keep was z none = sym (none_counted keep (zone_records d was z) none)

same_truth : (a b : Bool) → is_same a b ≡ true → b ≡ a
same_truth true true h = refl
same_truth true false h = absurd cc
same_truth false true h = absurd cc
same_truth false false h = refl

pub rows_match : (has keep : List ℕ → Bool) (xs : List (List ℕ)) → AllPass (λ x. is_same (keep x) (has x)) xs → count_by has xs ≡ count_by keep xs
rows_match has keep [] same = refl
rows_match has keep (x ∷ xs) same =
    let f : List ℕ → ℕ = λ y. cond (has y) 1 0 in
    let g : List ℕ → ℕ = λ y. cond (keep y) 1 0 in
    let one : f x ≡ g x = ap (λ (b : Bool). cond b 1 0) (same_truth (keep x) (has x) (same 0 x (omega arith))) in
    let others : count_by has xs ≡ count_by keep xs = rows_match has keep xs (λ k d below. same (suc k) d (omega arith)) in
    sum_by-cons f x xs ∙ ap (λ n. n + count_by has xs) one ∙ ap (λ n. g x + n) others ∙ sym (sum_by-cons g x xs)

pub found_counted : (d : ℕ) (keep : List ℕ → Bool) (was piece view : List ℕ) (z : Zone) (n : ℕ) → view ≡ piece → piece ≡ zone_bytes was z → n ≡ count_by keep (records_of d view) → n ≡ count_by keep (zone_records d was z)
found_counted d keep was piece view z n same is e = e ∙ ap (λ (l : List ℕ). count_by keep (records_of d l)) (same ∙ is)

pub hit_more : (d e : ℕ) (keep : List ℕ → Bool) (text line rest : List ℕ) (n total now : ℕ) (b : Bool) → e ≡ d → records_of e text ≡ line ∷ records_of e rest → b ≡ keep line → n + count_by keep (records_of d text) ≡ total → now ≡ n + cond b 1 0 → now + count_by keep (records_of d rest) ≡ total
hit_more d e keep text line rest n total now b by cut is before more =
    let f : List ℕ → ℕ = λ y. cond (keep y) 1 0 in
    let own : records_of d text ≡ line ∷ records_of d rest = subst (λ (k : ℕ). records_of k text ≡ line ∷ records_of k rest) by cut in
    let one : count_by keep (records_of d text) ≡ cond b 1 0 + count_by keep (records_of d rest) = ap (count_by keep) own ∙ sum_by-cons f line (records_of d rest) ∙ ap (λ (t : Bool). cond t 1 0 + count_by keep (records_of d rest)) (sym is) in
    omega arith

pub all_counted : (keep : List ℕ → Bool) (xs : List (List ℕ)) → AllPass keep xs → length xs ≡ count_by keep xs
all_counted keep xs all = sym (ap length (filter_all keep xs all)) ∙ length-filter keep xs

pub copied_counted : (d : ℕ) (has_row : List ℕ → Bool) (Describes : List ℕ → List (List ℕ) → Type 0) (keep : List ℕ → Bool) (was : List ℕ) (z : Zone) → AllPass keep (zone_records d was z) → IsZoneOf d has_row Describes was z → z.records ≡ count_by keep (zone_records d was z)
copied_counted d has_row Describes keep was z all zone = zone.records ∙ all_counted keep (zone_records d was z) all

-- a record has a byte at least
onto_long : (c : ℕ) (parts : List (List ℕ)) → length (onto_first c parts) ≤ suc (length parts)
onto_long c [] = omega arith
onto_long c (part ∷ parts) = omega arith

few_step : (d c : ℕ) (before : State) (rest : List ℕ) (t : Bool) → ((c == 10) && is_start (step (config_of d) before c).0) ≡ t → length (records_from d st.StartRecord rest) ≤ length rest → length (records_from d (step (config_of d) before c).0 rest) ≤ length rest
    → length (records_from d before (c ∷ rest)) ≤ suc (length rest)
few_step d c before rest true e start on = rw e (omega (arith, start))
few_step d c before rest false e start on = rw e (omega (arith, on, onto_long c (records_from d (step (config_of d) before c).0 rest)))

few_from : (d : ℕ) (s : State) (xs : List ℕ) → length (records_from d s xs) ≤ length xs
few_from d s [] = omega arith
few_from d s (c ∷ rest) = few_step d c s rest ((c == 10) && is_start (step (config_of d) s c).0) refl (few_from d st.StartRecord rest) (few_from d (step (config_of d) s c).0 rest)

-- so a zone has no more rows than bytes
pub rows_few : (d : ℕ) (has_row : List ℕ → Bool) (Describes : List ℕ → List (List ℕ) → Type 0) (was : List ℕ) (z : Zone) → IsZoneOf d has_row Describes was z → z.rows ≤ z.length
rows_few d has_row Describes was z zone =
    omega (arith, zone.rows, count_by-le-length has_row (zone_records d was z), few_from d st.StartRecord (zone_bytes was z), length-take z.length (drop z.first was))
