-- A search for bytes but for the case of letters, by the first of them.
use Rattle.std.proofs.Common.{◌≡◌, ℕ, ◌+◌, ◌-◌, ◌<◌, ◌≤◌, ◌⊎◌, inl, inr, true, eqb, List, map, length, take, drop, get_or, Option, None, Some, sym, ap, ◌∙◌, subst, length-drop, add-zero, arith}
use Rattle.std.proofs.Math.ListN.{get_or-map}
use Rattle.std.proofs.lemmas.Bool.{cases_lt, eq-eqb, or_left, or_right}
use Rattle.std.proofs.lemmas.Bool.Decides.{nat_tests}
use Rattle.std.proofs.lemmas.List.{ext_get_or, get_or-drop, get_or-take, length-map, length-take-le}
use Rattle.std.specs.Char.{to_ascii_lowercase, to_ascii_uppercase}
use Rattle.memchr.specs.Find.{FindsNeedle, IsFirstByte, Nowhere, OccursAt, Passes, is_byte2}

-- a letter with the lower case of another is one of its two cases
either_case : (x first : ℕ) → to_ascii_lowercase x ≡ to_ascii_lowercase first → (x ≡ to_ascii_lowercase first) ⊎ (x ≡ to_ascii_uppercase first)
either_case x first same = grind (arith, nat_tests)

is_either : (x first : ℕ) → (x ≡ to_ascii_lowercase first) ⊎ (x ≡ to_ascii_uppercase first) → is_byte2 (to_ascii_lowercase first) (to_ascii_uppercase first) x ≡ true
is_either x first (inl lower) = or_left (eqb x (to_ascii_lowercase first)) (eqb x (to_ascii_uppercase first)) (eq-eqb x (to_ascii_lowercase first) lower)
is_either x first (inr upper) = or_right (eqb x (to_ascii_lowercase first)) (eqb x (to_ascii_uppercase first)) (eq-eqb x (to_ascii_uppercase first) upper)

abbrev pub lowered : List ℕ → List ℕ
lowered text = map to_ascii_lowercase text

-- where the wanted bytes stand, the first of them does
first_stands : (text wanted : List ℕ) (first n : ℕ) → 0 < length wanted → first ≡ get_or wanted 0 0 → OccursAt (lowered text) (lowered wanted) n
    → is_byte2 (to_ascii_lowercase first) (to_ascii_uppercase first) (get_or text n 0) ≡ true
first_stands text wanted first n some is occurs =
    let reads : get_or (lowered text) (n + 0) 0 ≡ get_or (lowered wanted) 0 0 = occurs.reads 0 (omega (arith, length-map wanted to_ascii_lowercase)) in
    let same : to_ascii_lowercase (get_or text n 0) ≡ to_ascii_lowercase first =
    sym (get_or-map to_ascii_lowercase text n 0) ∙ ap (λ (k : ℕ). get_or (lowered text) k 0) (sym (add-zero n)) ∙ reads
    ∙ get_or-map to_ascii_lowercase wanted 0 0 ∙ ap to_ascii_lowercase (sym is) in
    is_either (get_or text n 0) first (either_case (get_or text n 0) first same)

-- what was found in the rest of a text by both cases of a letter
pub searched : (lower upper first place : ℕ) (text rest : List ℕ) (r : Option ℕ) → lower ≡ to_ascii_lowercase first → upper ≡ to_ascii_uppercase first → rest ≡ drop place text
    → IsFirstByte (is_byte2 lower upper) rest r → IsFirstByte (is_byte2 (to_ascii_lowercase first) (to_ascii_uppercase first)) (drop place text) r
searched lower upper first place text rest r lower_is upper_is rest_is finds =
    subst (λ (l : List ℕ). IsFirstByte (is_byte2 (to_ascii_lowercase first) (to_ascii_uppercase first)) l r) rest_is
    (subst (λ (n : ℕ). IsFirstByte (is_byte2 (to_ascii_lowercase first) n) rest r) upper_is (subst (λ (n : ℕ). IsFirstByte (is_byte2 n upper) rest r) lower_is finds))

-- so far they stand nowhere
pub record NotBefore (text wanted : List ℕ) (place : ℕ) : Type 0 where
  pub within : place ≤ length text
  pub nowhere : Nowhere (OccursAt (lowered text) (lowered wanted)) 0 place

pub not_before_none : (text wanted : List ℕ) → NotBefore text wanted 0
not_before_none text wanted = record { within = omega arith; nowhere = λ k low high. absurd (omega arith) }

nowhere_by : (text wanted : List ℕ) (first place end : ℕ) → 0 < length wanted → first ≡ get_or wanted 0 0 → NotBefore text wanted place
    → ((k : ℕ) → k < end → ¬ (Passes (is_byte2 (to_ascii_lowercase first) (to_ascii_uppercase first)) (drop place text) k))
    → (n : ℕ) → n < place + end → OccursAt (lowered text) (lowered wanted) n → (n < place) ⊎ (place ≤ n) → ⊥
nowhere_by text wanted first place end some is so_far none n below occurs (inl early) = so_far.nowhere n (omega arith) early occurs
nowhere_by text wanted first place end some is so_far none n below occurs (inr late) =
    let same : place + (n - place) ≡ n = omega arith in
    none (n - place) (omega arith)
    (ap (is_byte2 (to_ascii_lowercase first) (to_ascii_uppercase first)) (get_or-drop place text (n - place) 0 ∙ ap (λ (k : ℕ). get_or text k 0) same) ∙ first_stands text wanted first n some is occurs)

-- up to the next place of the first byte
pub not_before_step : (text wanted : List ℕ) (first place step : ℕ) → 0 < length wanted → first ≡ get_or wanted 0 0 → NotBefore text wanted place
    → IsFirstByte (is_byte2 (to_ascii_lowercase first) (to_ascii_uppercase first)) (drop place text) (Some step) → NotBefore text wanted (place + step)
not_before_step text wanted first place step some is so_far finds = record {
  within = omega (arith, finds.0.high, length-drop place text);
  nowhere = λ n low high occurs.
      nowhere_by text wanted first place step some is so_far (λ k below. finds.0.before k (omega arith) below) n high occurs (cases_lt n place);
}

-- the first byte stands nowhere behind
pub not_behind : (text wanted : List ℕ) (first place : ℕ) → 0 < length wanted → first ≡ get_or wanted 0 0 → NotBefore text wanted place
    → IsFirstByte (is_byte2 (to_ascii_lowercase first) (to_ascii_uppercase first)) (drop place text) None → FindsNeedle (lowered text) (lowered wanted) 0 None
not_behind text wanted first place some is so_far none = λ n low high occurs.
    let fits : n + length (lowered wanted) ≤ length (lowered text) = occurs.fits in
    let long : length (lowered text) ≡ length text = length-map text to_ascii_lowercase in
    let wanted_long : length (lowered wanted) ≡ length wanted = length-map wanted to_ascii_lowercase in
    let within : place ≤ length text = so_far.within in
    nowhere_by text wanted first place (length text - place) some is so_far (λ k below. none k (omega arith) (omega (arith, length-drop place text))) n (omega arith) occurs (cases_lt n place)

-- too few bytes are left
pub not_within : (text wanted : List ℕ) (place : ℕ) → length text - place < length wanted → NotBefore text wanted place → FindsNeedle (lowered text) (lowered wanted) 0 None
not_within text wanted place few so_far = λ n low high occurs.
    let fits : n + length (lowered wanted) ≤ length (lowered text) = occurs.fits in
    let long : length (lowered text) ≡ length text = length-map text to_ascii_lowercase in
    let wanted_long : length (lowered wanted) ≡ length wanted = length-map wanted to_ascii_lowercase in
    so_far.nowhere n low (omega arith) occurs

-- ---- the bytes at one place

slice_reads : (text : List ℕ) (place n k : ℕ) → k < n → get_or (lowered (take n (drop place text))) k 0 ≡ get_or (lowered text) (place + k) 0
slice_reads text place n k below =
    get_or-map to_ascii_lowercase (take n (drop place text)) k 0 ∙ ap to_ascii_lowercase (get_or-take n (drop place text) k 0 below ∙ get_or-drop place text k 0) ∙ sym (get_or-map to_ascii_lowercase text (place + k) 0)

pub stands_at : (text wanted part : List ℕ) (place : ℕ) → length wanted ≤ length text - place → place ≤ length text → part ≡ take (length wanted) (drop place text) → lowered part ≡ lowered wanted → NotBefore text wanted place
    → FindsNeedle (lowered text) (lowered wanted) 0 (Some place)
stands_at text wanted part place fits within is same so_far =
    let long : length (lowered text) ≡ length text = length-map text to_ascii_lowercase in
    let wanted_long : length (lowered wanted) ≡ length wanted = length-map wanted to_ascii_lowercase in (
      record { low = omega arith; high = omega arith; before = so_far.nowhere },
      record {
        fits = omega arith;
        reads = λ k below. sym (slice_reads text place (length wanted) k (omega arith)) ∙ ap (λ (l : List ℕ). get_or (lowered l) k 0) (sym is) ∙ ap (λ (l : List ℕ). get_or l k 0) same;
      },
    )

same_there : (text wanted : List ℕ) (place : ℕ) → length wanted ≤ length text - place → OccursAt (lowered text) (lowered wanted) place → lowered (take (length wanted) (drop place text)) ≡ lowered wanted
same_there text wanted place fits occurs =
    let part = take (length wanted) (drop place text) in
    let long : length part ≡ length wanted = length-take-le (length wanted) (drop place text) (omega (arith, length-drop place text)) in
    let lowered_long : length (lowered part) ≡ length wanted = length-map part to_ascii_lowercase ∙ long in
    let wanted_long : length (lowered wanted) ≡ length wanted = length-map wanted to_ascii_lowercase in
    ext_get_or 0 (lowered part) (lowered wanted) (lowered_long ∙ sym wanted_long)
    (λ k below. slice_reads text place (length wanted) k (omega arith) ∙ occurs.reads k (omega arith))

not_before_by : (text wanted : List ℕ) (place n : ℕ) → n < place + 1 → NotBefore text wanted place → (OccursAt (lowered text) (lowered wanted) place → ⊥) → OccursAt (lowered text) (lowered wanted) n → (n < place) ⊎ (place ≤ n) → ⊥
not_before_by text wanted place n below so_far here occurs (inl early) = so_far.nowhere n (omega arith) early occurs
not_before_by text wanted place n below so_far here occurs (inr late) =
    let same : n ≡ place = omega arith in
    here (subst (λ (k : ℕ). OccursAt (lowered text) (lowered wanted) k) same occurs)

pub not_before_next : (text wanted part : List ℕ) (place : ℕ) → 0 < length wanted → length wanted ≤ length text - place → part ≡ take (length wanted) (drop place text) → (lowered part ≡ lowered wanted → ⊥) → NotBefore text wanted place → NotBefore text wanted (place + 1)
not_before_next text wanted part place some fits is other so_far = record {
  within = omega arith;
  nowhere = λ n low high occurs.
      not_before_by text wanted place n high so_far (λ here. other (ap lowered is ∙ same_there text wanted place fits here)) occurs (cases_lt n place);
}

-- nothing wanted stands everywhere
pub nothing_stands : (text wanted : List ℕ) → length wanted ≡ 0 → FindsNeedle (lowered text) (lowered wanted) 0 (Some 0)
nothing_stands text wanted none =
    let wanted_long : length (lowered wanted) ≡ length wanted = length-map wanted to_ascii_lowercase in (
      record { low = omega arith; high = omega arith; before = λ k low high. absurd (omega arith) },
      record { fits = omega arith; reads = λ k below. absurd (omega arith) },
    )
