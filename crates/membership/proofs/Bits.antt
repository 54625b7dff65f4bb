-- A filter with a bit more.
use Rattle.std.proofs.Common.{◌≡◌, ◌≢◌, ℕ, zero, suc, ◌*◌, ◌/◌, ◌%◌, ◌<◌, ◌⊎◌, inl, inr, List, length, get_or, refl, sym, ap, subst, ◌∙◌, arith, Bool, true, false, max, ◌==◌, ◌||◌, ◌^◌}
use Rattle.std.specs.Int.{bit_at}
use Rattle.std.specs.Int.Bits.{bit_or}
use Rattle.std.proofs.Math.ListN.{set}
use Rattle.std.proofs.lemmas.Bool.{cases_eq, eq-eqb, eqb-true, ne_eqb}
use Rattle.std.proofs.lemmas.List.{get_or-set_other, get_or-set_same, length-set}
use Rattle.std.proofs.lemmas.Nat.Bits.{bit_at-lt, bit_at-pow_same, bit_at-pow_other, bit_at_or}
use Rattle.membership.specs.BloomFilters.{is_set, with_bit}

-- ---- a byte with a bit more
small-power : (k : ℕ) → k < 8 → 1 * 2 ^ k % 256 ≡ 2 ^ k
small-power zero l = refl
small-power (suc zero) l = refl
small-power (suc (suc zero)) l = refl
small-power (suc (suc (suc zero))) l = refl
small-power (suc (suc (suc (suc zero)))) l = refl
small-power (suc (suc (suc (suc (suc zero))))) l = refl
small-power (suc (suc (suc (suc (suc (suc zero)))))) l = refl
small-power (suc (suc (suc (suc (suc (suc (suc zero))))))) l = refl
small-power (suc (suc (suc (suc (suc (suc (suc (suc k)))))))) l = absurd (omega arith)

-- what the code writes
pub written : (filter : List ℕ) (i : ℕ) → set filter (i / 8) (bit_or (get_or filter (i / 8) 0) (1 * 2 ^ (i % 8) % 256)) ≡ with_bit filter i
unfolding with_bit
written filter i = ap (λ b. set filter (i / 8) (bit_or (get_or filter (i / 8) 0) b)) (small-power (i % 8) (omega arith))

-- a bit of two bytes together
pub or-left : (a b k : ℕ) → (bit_at a k == 1) ≡ true → (bit_at (bit_or a b) k == 1) ≡ true
or-left a b k h =
    let small : bit_at b k < 2 = bit_at-lt b k in
    let one : bit_at a k ≡ 1 = eqb-true (bit_at a k) 1 h in
    eq-eqb (bit_at (bit_or a b) k) 1 (bit_at_or a b k ∙ omega arith)

pub or-right : (a b k : ℕ) → (bit_at b k == 1) ≡ true → (bit_at (bit_or a b) k == 1) ≡ true
or-right a b k h =
    let small : bit_at a k < 2 = bit_at-lt a k in
    let one : bit_at b k ≡ 1 = eqb-true (bit_at b k) 1 h in
    eq-eqb (bit_at (bit_or a b) k) 1 (bit_at_or a b k ∙ omega arith)

same-bit : (byte k : ℕ) → (bit_at (bit_or byte (2 ^ k)) k == 1) ≡ true
same-bit byte k = or-right byte (2 ^ k) k (eq-eqb (bit_at (2 ^ k) k) 1 (bit_at-pow_same k))

-- ---- the filter
pub length-with_bit : (filter : List ℕ) (i : ℕ) → length (with_bit filter i) ≡ length filter
unfolding with_bit
length-with_bit filter i = length-set filter (i / 8) (bit_or (get_or filter (i / 8) 0) (2 ^ (i % 8)))

pub set-same : (filter : List ℕ) (i : ℕ) → i < 8 * length filter → is_set (with_bit filter i) i ≡ true
unfolding with_bit
set-same filter i here =
    let within : i / 8 < length filter = omega arith in
    ap (λ x. bit_at x (i % 8) == 1) (get_or-set_same filter (i / 8) (bit_or (get_or filter (i / 8) 0) (2 ^ (i % 8))) 0 within)
    ∙ same-bit (get_or filter (i / 8) 0) (i % 8)

-- a bit that is set stays so
pub set-kept : (filter : List ℕ) (i other : ℕ) → i < 8 * length filter → is_set filter other ≡ true → is_set (with_bit filter i) other ≡ true
unfolding with_bit
set-kept filter i other here was = by_byte (cases_eq (other / 8) (i / 8))
  where
    now : ℕ
    now = bit_or (get_or filter (i / 8) 0) (2 ^ (i % 8))

    by_byte : (other / 8 ≡ i / 8) ⊎ (other / 8 ≢ i / 8) → is_set (set filter (i / 8) now) other ≡ true
    by_byte (inr apart) = ap (λ x. bit_at x (other % 8) == 1) (get_or-set_other filter (i / 8) (other / 8) now 0 apart) ∙ was
    by_byte (inl same) =
        let within : i / 8 < length filter = omega arith in
        let there : get_or (set filter (i / 8) now) (other / 8) 0 ≡ now = ap (λ k. get_or (set filter (i / 8) now) k 0) same ∙ get_or-set_same filter (i / 8) now 0 within in
        let before : (bit_at (get_or filter (i / 8) 0) (other % 8) == 1) ≡ true = ap (λ k. bit_at (get_or filter k 0) (other % 8) == 1) (sym same) ∙ was in
        ap (λ x. bit_at x (other % 8) == 1) there ∙ or-left (get_or filter (i / 8) 0) (2 ^ (i % 8)) (other % 8) before

-- ---- exactly one bit more
same-as : (x y : ℕ) → x ≡ max y 0 → x ≡ y
same-as x y e = omega arith

other-bit : (byte k j : ℕ) → j ≢ k → bit_at (bit_or byte (2 ^ k)) j ≡ bit_at byte j
other-bit byte k j apart =
    same-as (bit_at (bit_or byte (2 ^ k)) j) (bit_at byte j) (bit_at_or byte (2 ^ k) j ∙ ap (max (bit_at byte j)) (bit_at-pow_other k j apart))

set-other : (filter : List ℕ) (i other : ℕ) → i < 8 * length filter → other ≢ i → is_set (with_bit filter i) other ≡ is_set filter other
unfolding with_bit
set-other filter i other here differ = by_byte (cases_eq (other / 8) (i / 8))
  where
    now : ℕ
    now = bit_or (get_or filter (i / 8) 0) (2 ^ (i % 8))

    by_byte : (other / 8 ≡ i / 8) ⊎ (other / 8 ≢ i / 8) → is_set (set filter (i / 8) now) other ≡ is_set filter other
    by_byte (inr apart) = ap (λ x. bit_at x (other % 8) == 1) (get_or-set_other filter (i / 8) (other / 8) now 0 apart)
    by_byte (inl same) =
        let within : i / 8 < length filter = omega arith in
        let bit : other % 8 ≢ i % 8 = λ e. differ (omega arith) in
        let there : get_or (set filter (i / 8) now) (other / 8) 0 ≡ now = ap (λ k. get_or (set filter (i / 8) now) k 0) same ∙ get_or-set_same filter (i / 8) now 0 within in
        ap (λ x. bit_at x (other % 8) == 1) there
        ∙ ap (λ x. x == 1) (other-bit (get_or filter (i / 8) 0) (i % 8) (other % 8) bit)
        ∙ ap (λ k. bit_at (get_or filter k 0) (other % 8) == 1) (sym same)

or-true : (b : Bool) → true ≡ (b || true)
or-true true = refl
or-true false = refl

pub or-false : (b : Bool) → b ≡ (b || false)
or-false true = refl
or-false false = refl

pub or_assoc : (a b c : Bool) → ((a || b) || c) ≡ (a || (b || c))
or_assoc true b c = refl
or_assoc false b c = refl

pub set-exactly : (filter : List ℕ) (i other : ℕ) → i < 8 * length filter → is_set (with_bit filter i) other ≡ (is_set filter other || (i == other))
set-exactly filter i other here = by_place (cases_eq i other)
  where
    by_place : (i ≡ other) ⊎ (i ≢ other) → is_set (with_bit filter i) other ≡ (is_set filter other || (i == other))
    by_place (inl e) =
        subst (λ k. is_set (with_bit filter i) k ≡ true) e (set-same filter i here)
        ∙ or-true (is_set filter other) ∙ ap (λ b. is_set filter other || b) (sym (eq-eqb i other e))
    by_place (inr ne) =
        set-other filter i other here (λ e. ne (sym e))
        ∙ or-false (is_set filter other) ∙ ap (λ b. is_set filter other || b) (sym (ne_eqb i other ne))
