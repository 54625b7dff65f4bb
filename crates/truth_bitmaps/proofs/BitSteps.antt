-- The bits of words that are put together.
use Rattle.std.proofs.Common.{◌≡◌, ◌∙◌, ℕ, zero, suc, ◌+◌, ◌-◌, ◌*◌, ◌/◌, ◌^◌, ◌%◌, ◌<◌, ◌≤◌, add-zero, ◌==◌, Bool, true, false, ◌&&◌, ◌||◌, if◌then◌else◌, ap, arith, refl, sym, min, max}
use Rattle.std.specs.Int.{bit_at}
use Rattle.std.specs.Int.Bits.{bit_and, bit_or, bit_xor}
use Rattle.std.proofs.lemmas.Nat.{pow_pos, shr_split}
use Rattle.std.proofs.lemmas.Nat.Bits.{bit_at-lt, bit_at-zero, bit_at_and, bit_at_cat_high, bit_at_cat_low, bit_at_ones, bit_at_or, bit_at_xor, same_from_bits_below}
use Rattle.truth_bitmaps.specs.Truths.{is_set}

abbrev pub flip : Bool → Bool
flip true = false
flip false = true

both : (x y : ℕ) → x < 2 → y < 2 → (min x y == 1) ≡ (x == 1) && (y == 1)
both zero zero p q = refl
both zero (suc zero) p q = refl
both (suc zero) zero p q = refl
both (suc zero) (suc zero) p q = refl
both (suc (suc x)) y p q = absurd (omega arith)
both x (suc (suc y)) p q = absurd (omega arith)

either : (x y : ℕ) → x < 2 → y < 2 → (max x y == 1) ≡ (x == 1) || (y == 1)
either zero zero p q = refl
either zero (suc zero) p q = refl
either (suc zero) zero p q = refl
either (suc zero) (suc zero) p q = refl
either (suc (suc x)) y p q = absurd (omega arith)
either x (suc (suc y)) p q = absurd (omega arith)

other : (x : ℕ) → x < 2 → ((x + 1) % 2 == 1) ≡ flip (x == 1)
other zero p = refl
other (suc zero) p = refl
other (suc (suc x)) p = absurd (omega arith)

pub set-and : (a b i : ℕ) → is_set (bit_and a b) i ≡ is_set a i && is_set b i
set-and a b i = ap (λ n. n == 1) (bit_at_and a b i) ∙ both (bit_at a i) (bit_at b i) (bit_at-lt a i) (bit_at-lt b i)

pub set-or : (a b i : ℕ) → is_set (bit_or a b) i ≡ is_set a i || is_set b i
set-or a b i = ap (λ n. n == 1) (bit_at_or a b i) ∙ either (bit_at a i) (bit_at b i) (bit_at-lt a i) (bit_at-lt b i)

pub set-flip : (a i : ℕ) → i < 64 → is_set (bit_xor a (2 ^ 64 - 1)) i ≡ flip (is_set a i)
set-flip a i l =
    ap (λ n. n == 1) (bit_at_xor a (2 ^ 64 - 1) i)
    ∙ ap (λ n. (bit_at a i + n) % 2 == 1) (bit_at_ones 64 i l)
    ∙ other (bit_at a i) (bit_at-lt a i)

pub set-zero : (i : ℕ) → is_set 0 i ≡ false
set-zero i = ap (λ n. n == 1) (bit_at-zero i)

pub set-ones : (i : ℕ) → i < 64 → is_set (2 ^ 64 - 1) i ≡ true
set-ones i l = ap (λ n. n == 1) (bit_at_ones 64 i l)

no-bit : (b c : Bool) → b || c ≡ false → (b ≡ false) × (c ≡ false)
no-bit true c h = cc
no-bit false c h = (refl, h)

-- no bit of either is set
pub none-set : (t u i : ℕ) → bit_or t u ≡ 0 → (is_set t i ≡ false) × (is_set u i ≡ false)
none-set t u i e = no-bit (is_set t i) (is_set u i) (sym (set-or t u i) ∙ ap (λ n. is_set n i) e ∙ set-zero i)

-- ---- words that are shifted

-- the low bits are those of the remainder
pub low-bits : (n w i : ℕ) → i < w → bit_at (n % 2 ^ w) i ≡ bit_at n i
low-bits n w i l = sym (bit_at_cat_low (n / 2 ^ w) w (n % 2 ^ w) i l) ∙ ap (λ m. bit_at m i) (shr_split n w)

pub shl-below : (a k i : ℕ) → i < k → i < 64 → is_set (a * 2 ^ k % 2 ^ 64) i ≡ false
shl-below a k i l small =
    ap (λ n. n == 1) (low-bits (a * 2 ^ k) 64 i small ∙ ap (λ n. bit_at n i) (sym (add-zero (a * 2 ^ k))) ∙ bit_at_cat_low a k 0 i l ∙ bit_at-zero i)

pub shl-above : (a k i : ℕ) → k ≤ i → i < 64 → is_set (a * 2 ^ k % 2 ^ 64) i ≡ is_set a (i - k)
shl-above a k i g small =
    ap (λ n. n == 1) (low-bits (a * 2 ^ k) 64 i small ∙ ap (λ n. bit_at n i) (sym (add-zero (a * 2 ^ k))) ∙ bit_at_cat_high a k 0 i (pow_pos k) g)

pub shr-set : (n s i : ℕ) → is_set (n / 2 ^ s) i ≡ is_set n (s + i)
shr-set n s i =
    let e : i ≡ s + i - s = omega arith in
    let rest : n % 2 ^ s < 2 ^ s = omega (arith, pow_pos s) in
    ap (λ m. m == 1) (ap (λ j. bit_at (n / 2 ^ s) j) e ∙ sym (bit_at_cat_high (n / 2 ^ s) s (n % 2 ^ s) (s + i) rest (omega arith)) ∙ ap (λ m. bit_at m (s + i)) (shr_split n s))

-- ---- words by their bits

one-or-none : (n : ℕ) → n < 2 → (n == 1) ≡ false → n ≡ 0
one-or-none zero l e = refl
one-or-none (suc zero) l e = cc
one-or-none (suc (suc n)) l e = absurd (omega arith)

one-if-set : (n : ℕ) → n < 2 → (n == 1) ≡ true → n ≡ 1
one-if-set zero l e = cc
one-if-set (suc zero) l e = refl
one-if-set (suc (suc n)) l e = absurd (omega arith)

-- a word of which no bit is set
pub zero-by-bits : (n : ℕ) → n < 2 ^ 64 → ((i : ℕ) → i < 64 → is_set n i ≡ false) → n ≡ 0
zero-by-bits n fits none = same_from_bits_below 64 n 0 fits (omega arith) (λ i l. one-or-none (bit_at n i) (bit_at-lt n i) (none i l) ∙ sym (bit_at-zero i))

-- a word of which each bit is set
pub ones-by-bits : (n : ℕ) → n < 2 ^ 64 → ((i : ℕ) → i < 64 → is_set n i ≡ true) → n ≡ 2 ^ 64 - 1
ones-by-bits n fits each = same_from_bits_below 64 n (2 ^ 64 - 1) fits (omega arith) (λ i l. one-if-set (bit_at n i) (bit_at-lt n i) (each i l) ∙ sym (bit_at_ones 64 i l))

-- ---- bits that are chosen by bits

flip-if : (b : Bool) → flip b ≡ (if b then false else true)
flip-if true = refl
flip-if false = refl

both-if : (b c : Bool) → c ≡ (if b then c else c)
both-if true c = refl
both-if false c = refl

pub choose-ones : (n i : ℕ) → i < 64 → is_set (2 ^ 64 - 1) i ≡ (if is_set n i then true else true)
choose-ones n i l = set-ones i l ∙ both-if (is_set n i) true

pub choose-flip : (n i : ℕ) → i < 64 → is_set (bit_xor n (2 ^ 64 - 1)) i ≡ (if is_set n i then false else true)
choose-flip n i l = set-flip n i l ∙ flip-if (is_set n i)
