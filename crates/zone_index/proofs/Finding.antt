-- What is found zone by zone is what is kept of all.
use Rattle.std.proofs.Common.{◌≡◌, ◌≤◌, ◌<◌, ◌+◌, ◌-◌, ◌^◌, min, arith, ℕ, List, [], ◌∷◌, ◌++◌, Bool, true, false, cond, Option, None, Some, IfSome, refl, sym, ap, ◌∙◌, subst, length, take, drop, get_or, take_all, add-zero}
use Rattle.std.proofs.lemmas.List.Elements.{Contains-get_or, filter-append}
use Rattle.std.proofs.lemmas.List.Folds.{concat-append}
use Rattle.std.proofs.lemmas.List.Sums.{count_by_more_no, count_by_more_yes, sum_by-append, sum_by-cons, sum_by-take-drop, sum_by_more}
use Rattle.std.specs.List.{All, concat, count_by, filter, flat_map, sum_by}
use Rattle.csv_records.specs.Records.{records_of}
use Rattle.zone_index.specs.Asking.{Asks}
use Rattle.zone_index.specs.Zones.{AsksInPart, AsksOfZone, Follow, IsIndexOf, IsOfZone, IsPartOfZone, IsZoneOf, zone_records}
use Rattle.zone_index.specs.declared.read_at.Asked.{Asked}
use Rattle.zone_index.specs.declared.records.Decision.{Decision}
use Rattle.zone_index.specs.declared.zones.Zone.{Zone}
use Rattle.zone_index.proofs.Asking.{asks_more, asks_then}

pub kept_of_zones : (p : List ℕ → Bool) (f : Zone → List (List ℕ)) (zones : List Zone) → concat (filter p (flat_map f zones)) ≡ flat_map (λ z. concat (filter p (f z))) zones
kept_of_zones p f [] = refl
kept_of_zones p f (z ∷ zones) =
    ap concat (filter-append p (f z) (flat_map f zones))
    ∙ concat-append (filter p (f z)) (filter p (flat_map f zones))
    ∙ ap (λ l. concat (filter p (f z)) ++ l) (kept_of_zones p f zones)

count_step : (p : Zone → Bool) (zones : List Zone) (i : ℕ) (z : Zone) (b : Bool) → i < length zones → p (get_or zones i z) ≡ b → count_by p (take (i + 1) zones) ≡ count_by p (take i zones) + cond b 1 0
count_step p zones i z true inside e = count_by_more_yes p zones i z inside e
count_step p zones i z false inside e = count_by_more_no p zones i z inside e ∙ sym (add-zero (count_by p (take i zones)))

-- one more is counted
pub counted_more : (p : Zone → Bool) (zones : List Zone) (i old new : ℕ) (z : Zone) (b : Bool) → i < length zones → z ≡ get_or zones i z → p z ≡ b → old ≡ count_by p (take i zones) → new ≡ old + cond b 1 0 → new ≡ count_by p (take (i + 1) zones)
counted_more p zones i old new z b inside is e before here = here ∙ ap (λ n. n + cond b 1 0) before ∙ sym (count_step p zones i z b inside (ap p (sym is) ∙ e))

-- in all zones
pub counted_whole : (p : Zone → Bool) (zones : List Zone) (i n : ℕ) → length zones ≤ i → n ≡ count_by p (take i zones) → n ≡ count_by p zones
counted_whole p zones i n ended before = before ∙ ap (count_by p) (take_all i zones ended)

of_zone : (decides : List ℕ → Decision) (zones : List Zone) (i : ℕ) (z : Zone) (x : Asked) → i < length zones → AsksOfZone decides (get_or zones i z) x → IsOfZone decides zones x
of_zone decides zones i z x inside h = record { zone = get_or zones i z; among = Contains-get_or zones i z inside; read = h.0; within = h.1 }

-- what was asked for in one zone more
pub asks_zone : (decides : List ℕ → Decision) (zones : List Zone) (i : ℕ) (z : Zone) (a b c : Option (List Asked)) → i < length zones → z ≡ get_or zones i z → Asks (IsOfZone decides zones) a b → Asks (AsksOfZone decides z) b c → Asks (IsOfZone decides zones) a c
asks_zone decides zones i z a b c inside is before here =
    let at : Asks (AsksOfZone decides (get_or zones i z)) b c = subst (λ (y : Zone). Asks (AsksOfZone decides y) b c) is here in
    asks_then (IsOfZone decides zones) a b c before (asks_more (AsksOfZone decides (get_or zones i z)) (IsOfZone decides zones) b c (λ x h. of_zone decides zones i z x inside h) at)

-- what holds of all holds of this one
pub at_item : (P : Zone → Type 0) (zones : List Zone) (i : ℕ) (z : Zone) → i < length zones → z ≡ get_or zones i z → All P zones → P z
at_item P zones i z inside is all = subst P (sym is) (all i z inside)

-- ---- why a search stops

pub cut_in_zone : (d : ℕ) (has_row : List ℕ → Bool) (Describes : List ℕ → List (List ℕ) → Type 0) (old now : Option (List ℕ)) (zones : List Zone) (i : ℕ) (z : Zone) → i < length zones → z ≡ get_or zones i z → now ≡ old → IfSome now (λ bytes. length bytes < z.first + z.length)
    → IfSome old (λ bytes. (was : List ℕ) (start : ℕ) → IsIndexOf d has_row Describes start zones was → length bytes < length was)
cut_in_zone d has_row Describes None now zones i z inside is same cut = tt
cut_in_zone d has_row Describes (Some bytes) now zones i z inside is same cut = λ was start index.
    let here : length bytes < z.first + z.length = subst (λ (o : Option (List ℕ)). IfSome o (λ xs. length xs < z.first + z.length)) same cut in
    let zone : IsZoneOf d has_row Describes was z = at_item (IsZoneOf d has_row Describes was) zones i z inside is index.right in
    omega (arith, here, zone.inside)

pub far_in_zone : (d : ℕ) (has_row : List ℕ → Bool) (Describes : List ℕ → List (List ℕ) → Type 0) (zones : List Zone) (i : ℕ) (z : Zone) (was : List ℕ) (start : ℕ) → i < length zones → z ≡ get_or zones i z → 2 ^ 64 ≤ z.first + z.length → IsIndexOf d has_row Describes start zones was → 2 ^ 64 ≤ length was
far_in_zone d has_row Describes zones i z was start inside is far index =
    let zone : IsZoneOf d has_row Describes was z = at_item (IsZoneOf d has_row Describes was) zones i z inside is index.right in
    omega (arith, far, zone.inside)

-- ---- counting

pub count_zones : (keep : List ℕ → Bool) (f : Zone → List (List ℕ)) (zones : List Zone) → count_by keep (flat_map f zones) ≡ sum_by (λ z. count_by keep (f z)) zones
count_zones keep f [] = refl
count_zones keep f (z ∷ zones) =
    sum_by-append (λ (x : List ℕ). cond (keep x) 1 0) (f z) (flat_map f zones) ∙ ap (λ n. count_by keep (f z) + n) (count_zones keep f zones) ∙ sym (sum_by-cons (λ (y : Zone). count_by keep (f y)) z zones)

-- as many in the zones so far
abbrev pub counted_in : ℕ → (List ℕ → Bool) → List ℕ → List Zone → ℕ
counted_in d keep was zones = sum_by (λ z. count_by keep (zone_records d was z)) zones

pub total_more : (d : ℕ) (keep : List ℕ → Bool) (was : List ℕ) (zones : List Zone) (i old n new : ℕ) (z : Zone) → i < length zones → z ≡ get_or zones i z → old ≡ counted_in d keep was (take i zones) → n ≡ count_by keep (zone_records d was z) → new ≡ old + n
    → new ≡ counted_in d keep was (take (i + 1) zones)
total_more d keep was zones i old n new z inside is before here sum =
    let f : Zone → ℕ = λ y. count_by keep (zone_records d was y) in
    sum ∙ ap (λ m. m + n) before ∙ ap (λ m. counted_in d keep was (take i zones) + m) (here ∙ ap f is) ∙ sym (sum_by_more f zones i z inside)

pub total_all : (d : ℕ) (has_row : List ℕ → Bool) (Describes : List ℕ → List (List ℕ) → Type 0) (keep : List ℕ → Bool) (start : ℕ) (zones : List Zone) (was : List ℕ) (i total : ℕ) → length zones ≤ i → IsIndexOf d has_row Describes start zones was
    → total ≡ counted_in d keep was (take i zones) → total ≡ count_by keep (records_of d (drop start was))
total_all d has_row Describes keep start zones was i total ended index before =
    before ∙ ap (counted_in d keep was) (take_all i zones ended) ∙ sym (count_zones keep (zone_records d was) zones) ∙ ap (count_by keep) (sym index.records)

part_of : (decides : List ℕ → Decision) (zones : List Zone) (i : ℕ) (z : Zone) (x : Asked) → i < length zones → AsksInPart decides (get_or zones i z) x → IsPartOfZone decides zones x
part_of decides zones i z x inside h = record { zone = get_or zones i z; among = Contains-get_or zones i z inside; undecided = h.0; within = h.1 }

-- what was asked for in one zone more
pub asks_part : (decides : List ℕ → Decision) (zones : List Zone) (i : ℕ) (z : Zone) (a b c : Option (List Asked)) → i < length zones → z ≡ get_or zones i z → Asks (IsPartOfZone decides zones) a b → Asks (AsksInPart decides z) b c → Asks (IsPartOfZone decides zones) a c
asks_part decides zones i z a b c inside is before here =
    let at : Asks (AsksInPart decides (get_or zones i z)) b c = subst (λ (y : Zone). Asks (AsksInPart decides y) b c) is here in
    asks_then (IsPartOfZone decides zones) a b c before (asks_more (AsksInPart decides (get_or zones i z)) (IsPartOfZone decides zones) b c (λ x h. part_of decides zones i z x inside h) at)

-- as far as 64 bits count
pub capped_more : (d : ℕ) (keep : List ℕ → Bool) (was : List ℕ) (zones : List Zone) (i old n new : ℕ) (z : Zone) → i < length zones → z ≡ get_or zones i z → old ≡ min (counted_in d keep was (take i zones)) (2 ^ 64 - 1) → n ≡ count_by keep (zone_records d was z) → new ≡ min (old + n) (2 ^ 64 - 1)
    → new ≡ min (counted_in d keep was (take (i + 1) zones)) (2 ^ 64 - 1)
capped_more d keep was zones i old n new z inside is before here sum =
    let before_it = counted_in d keep was (take i zones) in
    let more : before_it + n ≡ counted_in d keep was (take (i + 1) zones) = total_more d keep was zones i before_it n (before_it + n) z inside is refl here refl in
    let joined : min (old + n) (2 ^ 64 - 1) ≡ min (before_it + n) (2 ^ 64 - 1) = omega arith in
    sum ∙ joined ∙ ap (λ (m : ℕ). min m (2 ^ 64 - 1)) more

pub capped_all : (d : ℕ) (has_row : List ℕ → Bool) (Describes : List ℕ → List (List ℕ) → Type 0) (keep : List ℕ → Bool) (start : ℕ) (zones : List Zone) (was : List ℕ) (i found : ℕ) → length zones ≤ i → IsIndexOf d has_row Describes start zones was
    → found ≡ min (counted_in d keep was (take i zones)) (2 ^ 64 - 1) → found ≡ min (count_by keep (records_of d (drop start was))) (2 ^ 64 - 1)
capped_all d has_row Describes keep start zones was i found ended index before =
    before ∙ ap (λ (m : ℕ). min m (2 ^ 64 - 1)) (total_all d has_row Describes keep start zones was i (counted_in d keep was (take i zones)) ended index refl)

-- ---- no more than bytes

abbrev pub bytes_in : List Zone → ℕ
bytes_in zones = sum_by (λ z. z.length) zones

pub few_more : (zones : List Zone) (i old n new : ℕ) (z : Zone) → i < length zones → z ≡ get_or zones i z → old ≤ bytes_in (take i zones) → n ≤ z.length → new ≡ old + n → new ≤ bytes_in (take (i + 1) zones)
few_more zones i old n new z inside is before here sum =
    let length_of : Zone → ℕ = λ y. y.length in
    omega (arith, before, here, sum, ap length_of is, sum_by_more length_of zones i z inside)

follow_long : (at end : ℕ) (zones : List Zone) → Follow at zones end → at + bytes_in zones ≡ end
follow_long at end [] h = omega (arith, h)
follow_long at end (z ∷ zones) h = omega (arith, sum_by-cons (λ (y : Zone). y.length) z zones, follow_long (at + z.length) end zones h.1)

pub zones_far : (d : ℕ) (has_row : List ℕ → Bool) (Describes : List ℕ → List (List ℕ) → Type 0) (was : List ℕ) (start : ℕ) (zones : List Zone) (i old n : ℕ) (z : Zone) → i < length zones → z ≡ get_or zones i z → IsIndexOf d has_row Describes start zones was
    → old ≤ bytes_in (take i zones) → n ≤ z.length → 2 ^ 64 ≤ old + n → 2 ^ 64 ≤ length was
zones_far d has_row Describes was start zones i old n z inside is index before here far =
    omega (arith, far, few_more zones i old n (old + n) z inside is before here refl, sum_by-take-drop (λ (y : Zone). y.length) zones (i + 1), follow_long start (length was) zones index.follow)
