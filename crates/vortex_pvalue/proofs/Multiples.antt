-- Multiples of a natural number, among the whole numbers.
use Rattle.std.proofs.Common.{◌≡◌, ◌≤ℤ◌, ◌<ℤ◌, ◌+ℤ◌, ◌-ℤ◌, ◌*ℤ◌, ◌*◌, ◌+◌, ◌≤◌, ℕ, ℤ, zero, suc, pos, negsuc, neg_ℤ, refl, ap, arith}
use Rattle.std.proofs.Math.Nat.{add-mul, mul-le-mul_right, zero-mul}
use Rattle.std.proofs.lemmas.Int.{ints, by_lt_z}
use borrow.Author.Differences.{up, down}

-- a multiple, as a difference of natural numbers
times : (q : ℤ) (d : ℕ) → q *ℤ pos d ≡ pos (up q * d) -ℤ pos (down q * d)
times (pos n) d = let none = zero-mul d in omega (arith, ints)
times (negsuc n) d = let none = zero-mul d in omega (arith, ints)

-- a sum of two and a sum of three, times a number
sum_times : (a b c d : ℕ) → (a + (b + c)) * d ≡ (a * d) + ((b * d) + (c * d))
sum_times a b c d = simp add-mul

-- a sum of multiples is the multiple by the sum
pub times-add : (q p : ℤ) (d : ℕ) → (q +ℤ p) *ℤ pos d ≡ (q *ℤ pos d) +ℤ (p *ℤ pos d)
times-add q p d =
    let parts : up (q +ℤ p) + (down q + down p) ≡ down (q +ℤ p) + (up q + up p) = omega (arith, ints) in
    let multiples = ap (λ (x : ℕ). x * d) parts in
    let left = sum_times (up (q +ℤ p)) (down q) (down p) d in
    let right = sum_times (down (q +ℤ p)) (up q) (up p) d in
    let sum = times (q +ℤ p) d in
    let first = times q d in
    let second = times p d in
    omega (arith, ints)

-- the multiple by the negative number is the negative multiple
pub times-neg : (q : ℤ) (d : ℕ) → neg_ℤ q *ℤ pos d ≡ neg_ℤ (q *ℤ pos d)
times-neg (pos zero) d = let none = zero-mul d in omega (arith, ints)
times-neg (pos (suc n)) d = refl
times-neg (negsuc n) d = omega (arith, ints)

-- where one factor is above another, its multiple is at least one more
times-below : (q p : ℤ) (d : ℕ) → q <ℤ p → ((q *ℤ pos d) +ℤ pos d) ≤ℤ (p *ℤ pos d)
times-below q p d h =
    let parts : up q + (down p + 1) ≤ up p + down q = omega (arith, ints) in
    let multiples : (up q + (down p + 1)) * d ≤ (up p + down q) * d = mul-le-mul_right d parts in
    let left = sum_times (up q) (down p) 1 d in
    let right = add-mul (up p) (down q) d in
    let first = times q d in
    let second = times p d in
    omega (arith, ints)

-- two numbers of one window as wide as the divisor, that differ by a multiple of it, are equal
pub one_in_window : (low r s q p : ℤ) (d : ℕ) → low ≤ℤ r → r <ℤ (low +ℤ pos d) → low ≤ℤ s → s <ℤ (low +ℤ pos d)
    → r +ℤ (q *ℤ pos d) ≡ s +ℤ (p *ℤ pos d) → r ≡ s
one_in_window low r s q p d a b c e h =
    by_lt_z q p
    (λ l. let t = times-below q p d l in absurd (omega (arith, ints)))
    (λ l. by_lt_z p q
    (λ m. let t = times-below p q d m in absurd (omega (arith, ints)))
    (λ m.
    let same : q ≡ p = omega (arith, ints) in
    let t : q *ℤ pos d ≡ p *ℤ pos d = ap (λ (x : ℤ). x *ℤ pos d) same in
    omega (arith, ints)))
