-- Ranges that are appended, or joined to the last one.
use Rattle.std.proofs.Common.{◌≡◌, ◌≢◌, ◌<◌, ◌≤◌, ◌+◌, ◌^◌, ◌⊎◌, inl, inr, ℕ, zero, suc, List, [], ◌∷◌, ◌++◌, Bool, true, false, refl, sym, ap, ◌∙◌, subst, length, take, drop, get_or, set, map, Some, slice_get, arith, append_assoc, append-nil, take-add, drop-drop}
use Rattle.std.proofs.lemmas.Bool.{cases_lt}
use Rattle.std.proofs.lemmas.Grind.{flat_map-append, take_at_read}
use Rattle.std.proofs.lemmas.List.Elements.{filter-append}
use Rattle.std.proofs.lemmas.List.{map-append}
use Rattle.std.proofs.lemmas.Option.{same_Some, slice_get-get_or}
use Rattle.std.specs.List.{AllByRecursion, filter}
use Rattle.std.specs.Prelude.{if◌then◌else◌}
use Rattle.zone_scans.specs.Planning.{is_read}
use Rattle.zone_scans.specs.Ranges.{AreApart, AreJoined, EndAt, IsFarAt, IsFilled, IsNear, bytes_of, range_bytes}
use Rattle.zone_scans.specs.declared.planning.PlannedZone.{PlannedZone}
use Rattle.zone_scans.specs.declared.planning.Purpose.{Purpose}
use Rattle.zone_scans.specs.declared.ranges.ByteRange.{ByteRange}

-- a range with so many bytes more
abbrev pub extended : ByteRange → ByteRange → ByteRange
extended r more = record { place = r.place; length = r.length + more.length }

-- ---- one more

push_bytes : (bytes : List ℕ) (ranges : List ByteRange) (r : ByteRange) → bytes_of bytes (ranges ++ r ∷ []) ≡ bytes_of bytes ranges ++ range_bytes bytes r
push_bytes bytes ranges r = flat_map-append (range_bytes bytes) ranges (r ∷ []) ∙ ap (λ (l : List ℕ). bytes_of bytes ranges ++ l) (append-nil (range_bytes bytes r))

push_filled : (ranges : List ByteRange) (r : ByteRange) → AllByRecursion IsFilled ranges → IsFilled r → AllByRecursion IsFilled (ranges ++ r ∷ [])
push_filled [] r h one = (one, tt)
push_filled (x ∷ ranges) r h one = (h.0, push_filled ranges r h.1 one)

push_apart : (ranges : List ByteRange) (r : ByteRange) → AreApart ranges → ¬ (EndAt ranges r.place) → AreApart (ranges ++ r ∷ [])
push_apart [] r h other = tt
push_apart (x ∷ []) r h other = (other, tt)
push_apart (x ∷ y ∷ ranges) r h other = (h.0, push_apart (y ∷ ranges) r h.1 other)

pub joined_push : (ranges : List ByteRange) (r : ByteRange) → 0 < r.length → r.place + r.length < 2 ^ 64 → ¬ (EndAt ranges r.place) → AreJoined ranges → AreJoined (ranges ++ r ∷ [])
joined_push ranges r some near other h = record { filled = push_filled ranges r h.filled (record { some = some; near = near }); apart = push_apart ranges r h.apart other }

-- ---- the last one goes on

extended_bytes : (bytes : List ℕ) (last r : ByteRange) → last.place + last.length ≡ r.place → range_bytes bytes (extended last r) ≡ range_bytes bytes last ++ range_bytes bytes r
extended_bytes bytes last r meets =
    take-add last.length r.length (drop last.place bytes)
    ∙ ap (λ (l : List ℕ). range_bytes bytes last ++ take r.length l) (drop-drop last.length last.place bytes ∙ ap (λ (n : ℕ). drop n bytes) meets)

pub extend_bytes : (bytes : List ℕ) (ranges : List ByteRange) (i : ℕ) (last r : ByteRange) → i + 1 ≡ length ranges → last ≡ get_or ranges i last → EndAt ranges r.place → bytes_of bytes (set ranges i (extended last r)) ≡ bytes_of bytes ranges ++ range_bytes bytes r
extend_bytes bytes [] i last r long is ends = absurd ends
extend_bytes bytes (x ∷ []) zero last r long is ends =
    let meets : last.place + last.length ≡ r.place = subst (λ (y : ByteRange). y.place + y.length ≡ r.place) (sym is) ends in
    append-nil (range_bytes bytes (extended last r)) ∙ extended_bytes bytes last r meets
    ∙ ap (λ (y : ByteRange). range_bytes bytes y ++ range_bytes bytes r) is ∙ ap (λ (l : List ℕ). l ++ range_bytes bytes r) (sym (append-nil (range_bytes bytes x)))
extend_bytes bytes (x ∷ []) (suc i) last r long is ends = absurd (omega (arith, long))
extend_bytes bytes (x ∷ y ∷ ranges) zero last r long is ends = absurd (omega (arith, long))
extend_bytes bytes (x ∷ y ∷ ranges) (suc i) last r long is ends =
    ap (λ (l : List ℕ). range_bytes bytes x ++ l) (extend_bytes bytes (y ∷ ranges) i last r (omega (arith, long)) is ends)
    ∙ sym (append_assoc (range_bytes bytes x) (bytes_of bytes (y ∷ ranges)) (range_bytes bytes r))

extend_filled : (ranges : List ByteRange) (i : ℕ) (last r : ByteRange) → i + 1 ≡ length ranges → last ≡ get_or ranges i last → EndAt ranges r.place → 0 < r.length → r.place + r.length < 2 ^ 64 → AllByRecursion IsFilled ranges → AllByRecursion IsFilled (set ranges i (extended last r))
extend_filled [] i last r long is ends some near h = absurd ends
extend_filled (x ∷ []) zero last r long is ends some near h =
    let meets : last.place + last.length ≡ r.place = subst (λ (y : ByteRange). y.place + y.length ≡ r.place) (sym is) ends in
    (record { some = omega (arith, some); near = omega (arith, near, meets) }, tt)
extend_filled (x ∷ []) (suc i) last r long is ends some near h = absurd (omega (arith, long))
extend_filled (x ∷ y ∷ ranges) zero last r long is ends some near h = absurd (omega (arith, long))
extend_filled (x ∷ y ∷ ranges) (suc i) last r long is ends some near h = (h.0, extend_filled (y ∷ ranges) i last r (omega (arith, long)) is ends some near h.1)

extend_apart : (ranges : List ByteRange) (i : ℕ) (last r : ByteRange) → i + 1 ≡ length ranges → last ≡ get_or ranges i last → AreApart ranges → AreApart (set ranges i (extended last r))
extend_apart [] i last r long is h = tt
extend_apart (x ∷ []) zero last r long is h = tt
extend_apart (x ∷ []) (suc i) last r long is h = absurd (omega (arith, long))
extend_apart (x ∷ y ∷ ranges) zero last r long is h = absurd (omega (arith, long))
extend_apart (x ∷ y ∷ []) (suc zero) last r long is h = (subst (λ (z : ByteRange). x.place + x.length ≢ z.place) (sym is) h.0, tt)
extend_apart (x ∷ y ∷ []) (suc (suc i)) last r long is h = absurd (omega (arith, long))
extend_apart (x ∷ y ∷ z ∷ ranges) (suc zero) last r long is h = absurd (omega (arith, long))
extend_apart (x ∷ y ∷ z ∷ ranges) (suc (suc i)) last r long is h = (h.0, extend_apart (y ∷ z ∷ ranges) (suc i) last r (omega (arith, long)) is h.1)

pub joined_extend : (ranges : List ByteRange) (i : ℕ) (last r : ByteRange) → i + 1 ≡ length ranges → last ≡ get_or ranges i last → EndAt ranges r.place → 0 < r.length → r.place + r.length < 2 ^ 64 → AreJoined ranges → AreJoined (set ranges i (extended last r))
joined_extend ranges i last r long is ends some near h = record { filled = extend_filled ranges i last r long is ends some near h.filled; apart = extend_apart ranges i last r long is h.apart }

-- the last one is the one at the last place
pub last_end : (ranges : List ByteRange) (i : ℕ) (d : ByteRange) (place : ℕ) → i + 1 ≡ length ranges → EndAt ranges place → (get_or ranges i d).place + (get_or ranges i d).length ≡ place
last_end [] i d place long ends = absurd ends
last_end (x ∷ []) zero d place long ends = ends
last_end (x ∷ []) (suc i) d place long ends = absurd (omega (arith, long))
last_end (x ∷ y ∷ ranges) zero d place long ends = absurd (omega (arith, long))
last_end (x ∷ y ∷ ranges) (suc i) d place long ends = last_end (y ∷ ranges) i d place (omega (arith, long)) ends

pub end_last : (ranges : List ByteRange) (i : ℕ) (d : ByteRange) (place : ℕ) → i + 1 ≡ length ranges → (get_or ranges i d).place + (get_or ranges i d).length ≡ place → EndAt ranges place
end_last [] i d place long ends = absurd (omega (arith, long))
end_last (x ∷ []) zero d place long ends = ends
end_last (x ∷ []) (suc i) d place long ends = absurd (omega (arith, long))
end_last (x ∷ y ∷ ranges) zero d place long ends = absurd (omega (arith, long))
end_last (x ∷ y ∷ ranges) (suc i) d place long ends = end_last (y ∷ ranges) i d place (omega (arith, long)) ends

-- a list with an end has a range
pub some_range : (ranges : List ByteRange) (place : ℕ) → EndAt ranges place → 0 < length ranges
some_range [] place h = absurd h
some_range (x ∷ ranges) place h = omega arith

-- where a range ends that is not the last is not asked
pub push_covers : (bytes : List ℕ) (ranges : List ByteRange) (r : ByteRange) (is : Bool) → is ≡ true → bytes_of bytes (ranges ++ r ∷ []) ≡ bytes_of bytes ranges ++ (if is then range_bytes bytes r else [])
push_covers bytes ranges r is so = rw so (push_bytes bytes ranges r)

pub extend_covers : (bytes : List ℕ) (ranges : List ByteRange) (i : ℕ) (last r : ByteRange) (is : Bool) → is ≡ true → i + 1 ≡ length ranges → last ≡ get_or ranges i last → EndAt ranges r.place → bytes_of bytes (set ranges i (extended last r)) ≡ bytes_of bytes ranges ++ (if is then range_bytes bytes r else [])
extend_covers bytes ranges i last r is so long at ends = rw so (extend_bytes bytes ranges i last r long at ends)

-- ---- zone by zone

-- the ranges of the zones that are read
abbrev pub ranges_of : Purpose → List PlannedZone → List ByteRange
ranges_of purpose zones = map (λ (z : PlannedZone). z.range) (filter (is_read purpose) zones)

one_zone : (bytes : List ℕ) (purpose : Purpose) (z : PlannedZone) (b : Bool) → is_read purpose z ≡ b → bytes_of bytes (ranges_of purpose (z ∷ [])) ≡ (if b then range_bytes bytes z.range else [])
one_zone bytes purpose z true e = rw e (append-nil (range_bytes bytes z.range))
one_zone bytes purpose z false e = rw e refl

pub covers_more : (bytes : List ℕ) (purpose : Purpose) (zones : List PlannedZone) (i : ℕ) (d : PlannedZone) (b : Bool) (old new : List ByteRange) → i < length zones → b ≡ is_read purpose (get_or zones i d)
    → bytes_of bytes old ≡ bytes_of bytes (ranges_of purpose (take i zones)) → bytes_of bytes new ≡ bytes_of bytes old ++ (if b then range_bytes bytes (get_or zones i d).range else []) → bytes_of bytes new ≡ bytes_of bytes (ranges_of purpose (take (i + 1) zones))
covers_more bytes purpose zones i d b old new inside read before here =
    let range_of : PlannedZone → ByteRange = λ (y : PlannedZone). y.range in
    let front = take i zones in
    let z = get_or zones i d in
    let more : take (i + 1) zones ≡ front ++ z ∷ [] = (take_at_read zones i d inside).1 in
    let parts : ranges_of purpose (front ++ z ∷ []) ≡ ranges_of purpose front ++ ranges_of purpose (z ∷ []) =
    ap (map range_of) (filter-append (is_read purpose) front (z ∷ [])) ∙ map-append range_of (filter (is_read purpose) front) (filter (is_read purpose) (z ∷ [])) in
    here ∙ ap (λ (l : List ℕ). l ++ (if b then range_bytes bytes z.range else [])) before
    ∙ ap (λ (l : List ℕ). bytes_of bytes (ranges_of purpose front) ++ l) (sym (one_zone bytes purpose z b (sym read)))
    ∙ sym (flat_map-append (range_bytes bytes) (ranges_of purpose front) (ranges_of purpose (z ∷ [])))
    ∙ ap (bytes_of bytes) (sym parts) ∙ ap (λ (l : List PlannedZone). bytes_of bytes (ranges_of purpose l)) (sym more)

-- none so far ends too far
abbrev pub AreNearBefore : Purpose → List PlannedZone → ℕ → Type 0
AreNearBefore purpose zones k = (j : ℕ) (z : PlannedZone) → j < k → slice_get zones j ≡ Some z → IsNear purpose z

here_is : (zones : List PlannedZone) (k : ℕ) (d other : PlannedZone) → k < length zones → slice_get zones k ≡ Some other → get_or zones k d ≡ other
here_is zones k d other inside got = same_Some (get_or zones k d) other (sym (slice_get-get_or zones k d inside) ∙ got)

pub near_more : (purpose : Purpose) (zones : List PlannedZone) (k : ℕ) (d : PlannedZone) → k < length zones → AreNearBefore purpose zones k → IsNear purpose (get_or zones k d) → AreNearBefore purpose zones (k + 1)
near_more purpose zones k d inside before near j z below got = by_place (cases_lt j k)
  where
    by_place : (j < k) ⊎ (k ≤ j) → IsNear purpose z
    by_place (inl less) = before j z less got
    by_place (inr more) =
        let at : j ≡ k = omega arith in
        subst (IsNear purpose) (here_is zones k d z inside (subst (λ (n : ℕ). slice_get zones n ≡ Some z) at got)) near

pub far_at : (purpose : Purpose) (zones : List PlannedZone) (k : ℕ) (d : PlannedZone) → k < length zones → AreNearBefore purpose zones k → (is_read purpose (get_or zones k d) ≡ true) × (2 ^ 64 ≤ (get_or zones k d).range.place + (get_or zones k d).range.length) → IsFarAt purpose zones k
far_at purpose zones k d inside before far = record { zone = get_or zones k d; is = slice_get-get_or zones k d inside; read = far.0; far = far.1; first = before }
