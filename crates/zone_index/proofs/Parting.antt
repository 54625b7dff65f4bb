-- The zones of an index are parted where one of them ends.
use Rattle.std.proofs.Common.{◌≡◌, ◌≤◌, ◌+◌, ◌==◌, ◌&&◌, ℕ, List, [], ◌∷◌, ◌++◌, Bool, true, false, refl, sym, ap, ap₂, ◌∙◌, subst, length, take, drop, drop-drop, arith}
use Rattle.std.proofs.lemmas.Grind.{flat_map-append}
use Rattle.std.proofs.lemmas.List.{drop-append-le, drop_all, take-append-drop}
use Rattle.std.proofs.lemmas.List.Elements.{All-cons, All-drop, All-head, All-nil, All-tail, All-take}
use Rattle.std.proofs.lemmas.List.Folds.{concat-append}
use Rattle.std.proofs.Math.Seq.{drop-append_seam, take-append_seam}
use Rattle.std.specs.List.{All, concat, count_by, flat_map, onto_first}
use Rattle.csv.specs.Machine.{step}
use Rattle.csv.specs.declared.parser.State.{State}
use Rattle.csv.specs.declared.parser.State.TheVariants as st
use Rattle.csv_records.specs.Lemmas.RecordLaws.{concat-records_of}
use Rattle.csv_records.specs.Records.{is_start, records_from, records_of}
use Rattle.csv_records.specs.Rows.{config_of}
use Rattle.zone_index.specs.Laws.{IndexesAreParted}
use Rattle.zone_index.specs.Zones.{Follow, IsZoneOf, zone_bytes, zone_records}
use Rattle.zone_index.specs.declared.zones.Zone.{Zone}
use Rattle.zone_index.proofs.Joining.{follow_le, same_bytes}

-- ---- the first records of a text are those of their bytes

abbrev IsSome : List (List ℕ) → Type 0
IsSome parts = (first : List ℕ) × (others : List (List ℕ)) × (parts ≡ first ∷ others)

onto_some : (c : ℕ) (parts : List (List ℕ)) → IsSome (onto_first c parts)
onto_some c [] = (c ∷ [], [], refl)
onto_some c (part ∷ parts) = (c ∷ part, parts, refl)

some_step : (d : ℕ) (s : State) (c : ℕ) (rest : List ℕ) (t : Bool) → ((c == 10) && is_start (step (config_of d) s c).0) ≡ t → IsSome (records_from d s (c ∷ rest))
some_step d s c rest true e = rw e (c ∷ [], records_from d st.StartRecord rest, refl)
some_step d s c rest false e = rw e (onto_some c (records_from d (step (config_of d) s c).0 rest))

some_record : (d : ℕ) (s : State) (c : ℕ) (rest : List ℕ) → IsSome (records_from d s (c ∷ rest))
some_record d s c rest = some_step d s c rest ((c == 10) && is_start (step (config_of d) s c).0) refl

onto_nil : (c : ℕ) (parts ys : List (List ℕ)) → onto_first c parts ≡ [] ∷ ys → ⊥
onto_nil c [] ys e = cc
onto_nil c (part ∷ parts) ys e = cc

never_step : (d : ℕ) (s : State) (c : ℕ) (rest : List ℕ) (ys : List (List ℕ)) (t : Bool) → ((c == 10) && is_start (step (config_of d) s c).0) ≡ t → records_from d s (c ∷ rest) ≡ [] ∷ ys → ⊥
never_step d s c rest ys true e h =
    let opened : (c ∷ []) ∷ records_from d st.StartRecord rest ≡ [] ∷ ys = rw e at h in
    cc
never_step d s c rest ys false e h = onto_nil c (records_from d (step (config_of d) s c).0 rest) ys (rw e at h)

-- no record is empty
never_nil : (d : ℕ) (s : State) (xs : List ℕ) (ys : List (List ℕ)) → records_from d s xs ≡ [] ∷ ys → ⊥
never_nil d s [] ys h = cc
never_nil d s (c ∷ rest) ys h = never_step d s c rest ys ((c == 10) && is_start (step (config_of d) s c).0) refl h

-- the first records are those of the bytes in front, the others those of the bytes behind
abbrev ArePart : ℕ → State → List ℕ → List ℕ → List (List ℕ) → List (List ℕ) → Type 0
ArePart d s xs ys first others = (records_from d s xs ≡ first) × (records_of d ys ≡ others)

abbrev Parts : ℕ → State → List ℕ → List ℕ → Type 0
Parts d s xs ys = (first others : List (List ℕ)) → records_from d s (xs ++ ys) ≡ first ++ others → concat first ≡ xs → ArePart d s xs ys first others

second : (a b : Bool) → (a && b) ≡ true → b ≡ true
second true b h = h
second false b h = absurd cc

front_is : (c : ℕ) (line xs : List ℕ) (others : List (List ℕ)) → (c ∷ line) ++ concat others ≡ c ∷ xs → line ++ concat others ≡ xs
front_is c line xs others e = cc

part_true : (d c : ℕ) (xs ys : List ℕ) (first others : List (List ℕ)) → Parts d st.StartRecord xs ys → (c ∷ []) ∷ records_from d st.StartRecord (xs ++ ys) ≡ first ++ others → concat first ≡ c ∷ xs
    → ((c ∷ []) ∷ records_from d st.StartRecord xs ≡ first) × (records_of d ys ≡ others)
part_true d c xs ys [] others later h whole = absurd cc
part_true d c xs ys (line ∷ first) others later h whole =
    let one : line ≡ c ∷ [] = cc in
    let rest : records_from d st.StartRecord (xs ++ ys) ≡ first ++ others = cc in
    let own : concat first ≡ xs = front_is c [] xs first (ap (λ (l : List ℕ). l ++ concat first) (sym one) ∙ whole) in
    let p = later first others rest own in
    (ap₂ (λ (x : List ℕ) (l : List (List ℕ)). x ∷ l) (sym one) p.0, p.1)

-- the last byte of the front, and nothing behind it
part_last : (d c : ℕ) (s : State) (ys : List ℕ) (first others : List (List ℕ)) → onto_first c (records_from d s ys) ≡ first ++ others → concat first ≡ c ∷ [] → ((c ∷ []) ∷ [] ≡ first) × (records_of d ys ≡ others)
part_last d c s ys [] others h whole = absurd cc
part_last d c s [] (line ∷ []) others h whole = (cc, cc)
part_last d c s [] (line ∷ next ∷ first) others h whole = absurd cc
part_last d c s (y ∷ ys) (line ∷ first) others h whole =
    let some = some_record d s y ys in
    let opened : (c ∷ some.0) ∷ some.1 ≡ line ∷ (first ++ others) = ap (onto_first c) (sym some.2) ∙ h in
    let here : line ≡ c ∷ some.0 = cc in
    let none : some.0 ++ concat first ≡ [] = front_is c some.0 [] first (ap (λ (l : List ℕ). l ++ concat first) (sym here) ∙ whole) in
    absurd (never_nil d s (y ∷ ys) some.1 (some.2 ∙ ap (λ (l : List ℕ). l ∷ some.1) (left_nil some.0 (concat first) none)))
  where
    left_nil : (xs zs : List ℕ) → xs ++ zs ≡ [] → xs ≡ []
    left_nil [] zs e = refl
    left_nil (x ∷ xs) zs e = absurd cc

-- the record goes on
part_false : (d c x : ℕ) (s : State) (xs ys : List ℕ) (first others : List (List ℕ)) → Parts d s (x ∷ xs) ys → onto_first c (records_from d s (x ∷ xs ++ ys)) ≡ first ++ others → concat first ≡ c ∷ x ∷ xs
    → (onto_first c (records_from d s (x ∷ xs)) ≡ first) × (records_of d ys ≡ others)
part_false d c x s xs ys [] others later h whole = absurd cc
part_false d c x s xs ys (line ∷ first) others later h whole =
    let some = some_record d s x (xs ++ ys) in
    let opened : (c ∷ some.0) ∷ some.1 ≡ line ∷ (first ++ others) = ap (onto_first c) (sym some.2) ∙ h in
    let here : line ≡ c ∷ some.0 = cc in
    let rest : some.1 ≡ first ++ others = cc in
    let own : some.0 ++ concat first ≡ x ∷ xs = front_is c some.0 (x ∷ xs) first (ap (λ (l : List ℕ). l ++ concat first) (sym here) ∙ whole) in
    let p = later (some.0 ∷ first) others (some.2 ∙ ap (λ (l : List (List ℕ)). some.0 ∷ l) rest) own in
    (ap (onto_first c) p.0 ∙ ap (λ (l : List ℕ). l ∷ first) (sym here), p.1)

left_nil : (xs zs : List ℕ) → xs ++ zs ≡ [] → xs ≡ []
left_nil [] zs e = refl
left_nil (x ∷ xs) zs e = absurd cc

parts_none : (d : ℕ) (ys : List ℕ) → Parts d st.StartRecord [] ys
parts_none d ys [] others h whole = (refl, h)
parts_none d ys (line ∷ first) others h whole = absurd (never_nil d st.StartRecord ys (first ++ others) (h ∙ ap (λ (l : List ℕ). l ∷ first ++ others) (left_nil line (concat first) whole)))

part_one : (d c : ℕ) (s : State) (ys : List ℕ) (t : Bool) → ((c == 10) && is_start (step (config_of d) s c).0) ≡ t → Parts d s (c ∷ []) ys
part_one d c s ys true e first others h whole = rw e (part_true d c [] ys first others (parts_none d ys) (rw e at h) whole)
part_one d c s ys false e first others h whole = rw e (part_last d c (step (config_of d) s c).0 ys first others (rw e at h) whole)

part_more : (d c x : ℕ) (s : State) (xs ys : List ℕ) (t : Bool) → ((c == 10) && is_start (step (config_of d) s c).0) ≡ t → Parts d st.StartRecord (x ∷ xs) ys → Parts d (step (config_of d) s c).0 (x ∷ xs) ys → Parts d s (c ∷ x ∷ xs) ys
part_more d c x s xs ys true e start on first others h whole = rw e (part_true d c (x ∷ xs) ys first others start (rw e at h) whole)
part_more d c x s xs ys false e start on first others h whole = rw e (part_false d c x (step (config_of d) s c).0 xs ys first others on (rw e at h) whole)

parts_some : (d c : ℕ) (s : State) (xs ys : List ℕ) → Parts d s (c ∷ xs) ys
parts_some d c s [] ys = part_one d c s ys ((c == 10) && is_start (step (config_of d) s c).0) refl
parts_some d c s (x ∷ xs) ys =
    part_more d c x s xs ys ((c == 10) && is_start (step (config_of d) s c).0) refl (parts_some d x st.StartRecord xs ys) (parts_some d x (step (config_of d) s c).0 xs ys)

parted_records : (d : ℕ) (xs ys : List ℕ) → Parts d st.StartRecord xs ys
parted_records d [] ys = parts_none d ys
parted_records d (c ∷ xs) ys = parts_some d c st.StartRecord xs ys

-- ---- zones up to a place

within : (at end : ℕ) (zones : List Zone) → Follow at zones end → All (λ z. z.first + z.length ≤ end) zones
within at end [] h = All-nil (λ (z : Zone). z.first + z.length ≤ end)
within at end (z ∷ zones) h =
    All-cons (λ (y : Zone). y.first + y.length ≤ end) z zones (omega (arith, h.0, follow_le (at + z.length) end zones h.1)) (within (at + z.length) end zones h.1)

-- the bytes of zones are those from the first one on
zones_are : (at : ℕ) (zones : List Zone) (front : List ℕ) → Follow at zones (length front) → flat_map (zone_bytes front) zones ≡ drop at front
zones_are at [] front h = sym (drop_all at front (omega (arith, h)))
zones_are at (z ∷ zones) front h =
    ap₂ (λ (xs ys : List ℕ). xs ++ ys) (ap (λ (n : ℕ). take z.length (drop n front)) h.0) (zones_are (at + z.length) zones front h.1 ∙ sym (drop-drop z.length at front))
    ∙ take-append-drop z.length (drop at front)

follow_rest : (at mid end : ℕ) (zones more : List Zone) → Follow at (zones ++ more) end → Follow at zones mid → Follow mid more end
follow_rest at mid end [] more h k = subst (λ (n : ℕ). Follow n more end) k h
follow_rest at mid end (z ∷ zones) more h k = follow_rest (at + z.length) mid end zones more h.1 k.1

-- the bytes of the records of zones are theirs
concat_zones : (d : ℕ) (bytes : List ℕ) (zones : List Zone) → concat (flat_map (zone_records d bytes) zones) ≡ flat_map (zone_bytes bytes) zones
concat_zones d bytes [] = refl
concat_zones d bytes (z ∷ zones) =
    concat-append (zone_records d bytes z) (flat_map (zone_records d bytes) zones)
    ∙ ap₂ (λ (xs ys : List ℕ). xs ++ ys) (concat-records_of d (zone_bytes bytes z)) (concat_zones d bytes zones)

-- the front alone has the same zones
bytes_stay : (front behind : List ℕ) (zones : List Zone) → All (λ z. z.first + z.length ≤ length front) zones → flat_map (zone_bytes (front ++ behind)) zones ≡ flat_map (zone_bytes front) zones
bytes_stay front behind [] h = refl
bytes_stay front behind (z ∷ zones) h =
    let P : Zone → Type 0 = λ y. y.first + y.length ≤ length front in
    ap₂ (λ (xs ys : List ℕ). xs ++ ys) (same_bytes front behind z (All-head P z zones h)) (bytes_stay front behind zones (All-tail P z zones h))

records_stay : (d : ℕ) (front behind : List ℕ) (zones : List Zone) → All (λ z. z.first + z.length ≤ length front) zones → flat_map (zone_records d (front ++ behind)) zones ≡ flat_map (zone_records d front) zones
records_stay d front behind [] h = refl
records_stay d front behind (z ∷ zones) h =
    let P : Zone → Type 0 = λ y. y.first + y.length ≤ length front in
    ap₂ (λ (xs ys : List (List ℕ)). xs ++ ys) (ap (records_of d) (same_bytes front behind z (All-head P z zones h))) (records_stay d front behind zones (All-tail P z zones h))

zone_in_front : (d : ℕ) (has_row : List ℕ → Bool) (Describes : List ℕ → List (List ℕ) → Type 0) (front behind : List ℕ) (z : Zone) → z.first + z.length ≤ length front → IsZoneOf d has_row Describes (front ++ behind) z → IsZoneOf d has_row Describes front z
zone_in_front d has_row Describes front behind z inside h =
    let same : zone_records d (front ++ behind) z ≡ zone_records d front z = ap (records_of d) (same_bytes front behind z inside) in
    record {
      inside = inside;
      records = h.records ∙ ap length same;
      rows = h.rows ∙ ap (count_by has_row) same;
      described = subst (Describes z.statistics.items) same h.described;
    }

zones_in_front : (d : ℕ) (has_row : List ℕ → Bool) (Describes : List ℕ → List (List ℕ) → Type 0) (front behind : List ℕ) (zones : List Zone) → All (λ z. z.first + z.length ≤ length front) zones → All (IsZoneOf d has_row Describes (front ++ behind)) zones
    → All (IsZoneOf d has_row Describes front) zones
zones_in_front d has_row Describes front behind [] h k = All-nil (IsZoneOf d has_row Describes front)
zones_in_front d has_row Describes front behind (z ∷ zones) h k =
    let P : Zone → Type 0 = λ y. y.first + y.length ≤ length front in
    let Q = IsZoneOf d has_row Describes (front ++ behind) in
    All-cons (IsZoneOf d has_row Describes front) z zones (zone_in_front d has_row Describes front behind z (All-head P z zones h) (All-head Q z zones k))
    (zones_in_front d has_row Describes front behind zones (All-tail P z zones h) (All-tail Q z zones k))

pub parted : (d : ℕ) (has_row : List ℕ → Bool) (Describes : List ℕ → List (List ℕ) → Type 0) → IndexesAreParted d has_row Describes
parted d has_row Describes start zones more front behind h ends =
    let all = front ++ behind in
    let Q = IsZoneOf d has_row Describes all in
    let inside = within start (length front) zones ends in
    let begins : start ≤ length front = follow_le start (length front) zones ends in
    let left : drop start all ≡ drop start front ++ behind = drop-append-le start front behind begins in
    let first = flat_map (zone_records d all) zones in
    let others = flat_map (zone_records d all) more in
    let whole : records_of d (drop start front ++ behind) ≡ first ++ others = ap (records_of d) (sym left) ∙ h.records ∙ flat_map-append (zone_records d all) zones more in
    let own : concat first ≡ drop start front = concat_zones d all zones ∙ bytes_stay front behind zones inside ∙ zones_are start zones front ends in
    let p = parted_records d (drop start front) behind first others whole own in
    record {
      before = record {
        follow = ends;
        records = p.0 ∙ records_stay d front behind zones inside;
        right = zones_in_front d has_row Describes front behind zones inside (subst (All Q) (take-append_seam zones more) (All-take Q (length zones) (zones ++ more) h.right));
      };
      ends = whole ∙ ap₂ (λ (xs ys : List (List ℕ)). xs ++ ys) (sym p.0) (sym p.1);
      after = record {
        follow = follow_rest start (length front) (length all) zones more h.follow ends;
        records = ap (records_of d) (drop-append_seam front behind) ∙ p.1;
        right = subst (All Q) (drop-append_seam zones more) (All-drop Q (length zones) (zones ++ more) h.right);
      };
    }
