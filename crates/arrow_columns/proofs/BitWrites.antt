-- A bitmap with a bit more.
use Rattle.std.proofs.Common.{◌≡◌, ◌≢◌, ℕ, zero, suc, ◌*◌, ◌/◌, ◌%◌, ◌<◌, ◌≤◌, ◌⊎◌, inl, inr, List, length, get_or, refl, sym, ap, ◌∙◌, arith, true, max, ◌==◌, ◌^◌}
use Rattle.std.specs.Int.{bit_at}
use Rattle.std.specs.Int.Bits.{bit_or}
use Rattle.std.proofs.Math.ListN.{set}
use Rattle.std.proofs.lemmas.Bool.{cases_lt}
use Rattle.std.proofs.lemmas.List.{get_or-set_other, get_or-set_same}
use Rattle.std.proofs.lemmas.Nat.Bits.{bit_at-lt, bit_at-pow_same, bit_at-pow_other, bit_at_or}
use Rattle.arrow_columns.specs.Bitmaps.{bit_of}

-- a byte with a bit more
abbrev pub with_bit : ℕ → ℕ → ℕ
with_bit byte k = bit_or byte (2 ^ k)

small-power : (k : ℕ) → k < 8 → 1 * 2 ^ k % 256 ≡ 2 ^ k
small-power zero l = refl
small-power (suc zero) l = refl
small-power (suc (suc zero)) l = refl
small-power (suc (suc (suc zero))) l = refl
small-power (suc (suc (suc (suc zero)))) l = refl
small-power (suc (suc (suc (suc (suc zero))))) l = refl
small-power (suc (suc (suc (suc (suc (suc zero)))))) l = refl
small-power (suc (suc (suc (suc (suc (suc (suc zero))))))) l = refl
small-power (suc (suc (suc (suc (suc (suc (suc (suc k)))))))) l = absurd (omega arith)

-- what the code writes
pub byte-is : (byte i : ℕ) → bit_or byte (1 * 2 ^ (i % 8) % 256) ≡ with_bit byte (i % 8)
byte-is byte i = ap (bit_or byte) (small-power (i % 8) (omega arith))

one-of : (x y : ℕ) → y < 2 → x ≡ max y 1 → x ≡ 1
one-of x y l e = omega arith

same-as : (x y : ℕ) → x ≡ max y 0 → x ≡ y
same-as x y e = omega arith

same-bit : (byte k : ℕ) → (bit_at (with_bit byte k) k == 1) ≡ true
same-bit byte k =
    let at : bit_at (with_bit byte k) k ≡ max (bit_at byte k) 1 = bit_at_or byte (2 ^ k) k ∙ ap (max (bit_at byte k)) (bit_at-pow_same k) in
    ap (λ b. b == 1) (one-of (bit_at (with_bit byte k) k) (bit_at byte k) (bit_at-lt byte k) at)

other-bit : (byte k j : ℕ) → j ≢ k → bit_at (with_bit byte k) j ≡ bit_at byte j
other-bit byte k j apart =
    same-as (bit_at (with_bit byte k) j) (bit_at byte j) (bit_at_or byte (2 ^ k) j ∙ ap (max (bit_at byte j)) (bit_at-pow_other k j apart))

pub set-same : (bitmap : List ℕ) (i b : ℕ) → i < 8 * length bitmap → b ≡ with_bit (get_or bitmap (i / 8) 0) (i % 8) → bit_of (set bitmap (i / 8) b) i ≡ true
set-same bitmap i b here is =
    let within : i / 8 < length bitmap = omega arith in
    ap (λ x. bit_at x (i % 8) == 1) (get_or-set_same bitmap (i / 8) b 0 within ∙ is) ∙ same-bit (get_or bitmap (i / 8) 0) (i % 8)

pub set-other : (bitmap : List ℕ) (i b other : ℕ) → i < 8 * length bitmap → b ≡ with_bit (get_or bitmap (i / 8) 0) (i % 8) → other ≢ i → bit_of (set bitmap (i / 8) b) other ≡ bit_of bitmap other
set-other bitmap i b other here is apart = by_byte (cases_lt (other / 8) (i / 8)) (cases_lt (i / 8) (other / 8))
  where
    elsewhere : other / 8 ≢ i / 8 → bit_of (set bitmap (i / 8) b) other ≡ bit_of bitmap other
    elsewhere ne = ap (λ x. bit_at x (other % 8) == 1) (get_or-set_other bitmap (i / 8) (other / 8) b 0 ne)

    by_byte : (other / 8 < i / 8) ⊎ (i / 8 ≤ other / 8) → (i / 8 < other / 8) ⊎ (other / 8 ≤ i / 8) → bit_of (set bitmap (i / 8) b) other ≡ bit_of bitmap other
    by_byte (inl l) h = elsewhere (λ e. omega arith)
    by_byte (inr g) (inl l) = elsewhere (λ e. omega arith)
    by_byte (inr g) (inr l) =
        let byte : other / 8 ≡ i / 8 = omega arith in
        let within : i / 8 < length bitmap = omega arith in
        let bit : other % 8 ≢ i % 8 = λ e. apart (omega arith) in
        let now : get_or (set bitmap (i / 8) b) (other / 8) 0 ≡ b = ap (λ k. get_or (set bitmap (i / 8) b) k 0) byte ∙ get_or-set_same bitmap (i / 8) b 0 within in
        ap (λ x. bit_at x (other % 8) == 1) (now ∙ is)
        ∙ ap (λ x. x == 1) (other-bit (get_or bitmap (i / 8) 0) (i % 8) (other % 8) bit)
        ∙ ap (λ k. bit_at (get_or bitmap k 0) (other % 8) == 1) (sym byte)
