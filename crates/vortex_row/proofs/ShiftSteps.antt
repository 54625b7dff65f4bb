-- The bytes of a number that is moved to the front of its eight, where the used ones come first.
use Rattle.std.proofs.Common.{◌≡◌, ℕ, zero, suc, ◌+◌, ◌-◌, ◌*◌, ◌/◌, ◌%◌, ◌^◌, ◌<◌, ◌≤◌, inl, inr, [], ◌∷◌, ◌++◌, take, drop, refl, sym, subst, ap, ap₂, ◌∙◌, arith}
use Rattle.std.proofs.Math.Arith.{mod-mul}
use Rattle.std.proofs.Math.Nat.{mul_assoc}
use Rattle.std.proofs.lemmas.List.{take_all, drop_all, take-append-le, drop-append-le}
use Rattle.std.proofs.lemmas.Bool.{cases_lt}
use Rattle.std.proofs.lemmas.Nat.{pow-add}
use Rattle.vortex_row.specs.Keys.{big_endian}
use Rattle.vortex_row.proofs.NumberLaws.{big_endian-length}

power_some : (k : ℕ) → 0 < 256 ^ k
power_some zero = omega arith
power_some (suc k) = let some = power_some k in omega arith

-- what does not fit into the bytes makes no difference to them
what_fits : (k n : ℕ) → big_endian k (n % 256 ^ k) ≡ big_endian k n
what_fits zero n = refl
what_fits (suc k) n =
    let e : 256 ^ suc k ≡ 256 ^ k * 256 = omega arith in
    let f : n % 256 ^ suc k ≡ (n / 256 % 256 ^ k) * 256 + n % 256 = ap (λ m. n % m) e ∙ mod-mul n (power_some k) (omega arith) in
    let high : n % 256 ^ suc k / 256 ≡ n / 256 % 256 ^ k = rw f (omega arith) in
    let low : n % 256 ^ suc k % 256 ≡ n % 256 = rw f (omega arith) in
    ap₂ (λ m b. big_endian k m ++ b ∷ []) high low ∙ ap (λ bs. bs ++ (n % 256) ∷ []) (what_fits k (n / 256))

-- the first bytes of a number that j bytes of zeros follow
before_zeros : (j k n : ℕ) → take k (big_endian (j + k) (n * 256 ^ j)) ≡ big_endian k n
before_zeros zero k n =
    let e : n * 256 ^ 0 ≡ n = omega arith in
    let f : 0 + k ≡ k = omega arith in
    let long = big_endian-length k n in
    rw (e, f) (take_all k (big_endian k n) (omega arith))
before_zeros (suc j) k n =
    let more : 256 ^ suc j ≡ 256 ^ j * 256 = omega arith in
    let e : n * 256 ^ suc j ≡ n * 256 ^ j * 256 = ap (λ m. n * m) more ∙ sym (mul_assoc n (256 ^ j) 256) in
    let f : suc j + k ≡ suc (j + k) = omega arith in
    let high : n * 256 ^ suc j / 256 ≡ n * 256 ^ j = rw e (omega arith) in
    let long = big_endian-length (j + k) (n * 256 ^ suc j / 256) in
    ap (λ m. take k (big_endian m (n * 256 ^ suc j))) f
    ∙ take-append-le k (big_endian (j + k) (n * 256 ^ suc j / 256)) ((n * 256 ^ suc j % 256) ∷ []) (omega arith)
    ∙ ap (λ m. take k (big_endian (j + k) m)) high ∙ before_zeros j k n

-- the last k bytes
last_bytes : (j k n : ℕ) → drop j (big_endian (k + j) n) ≡ big_endian k n
last_bytes j zero n =
    let f : 0 + j ≡ j = omega arith in
    let long = big_endian-length j n in
    rw f (drop_all j (big_endian j n) (omega arith))
last_bytes j (suc k) n =
    let f : suc k + j ≡ suc (k + j) = omega arith in
    let long = big_endian-length (k + j) (n / 256) in
    ap (λ m. drop j (big_endian m n)) f ∙ drop-append-le j (big_endian (k + j) (n / 256)) ((n % 256) ∷ []) (omega arith) ∙ ap (λ bs. bs ++ (n % 256) ∷ []) (last_bytes j k (n / 256))

bits_of_bytes : (j : ℕ) → 2 ^ (8 * j) ≡ 256 ^ j
bits_of_bytes zero = refl
bits_of_bytes (suc j) =
    let e : 8 * suc j ≡ 8 + 8 * j = omega arith in
    let f : 256 * 256 ^ j ≡ 256 ^ suc j = omega arith in
    ap (λ m. 2 ^ m) e ∙ pow-add 2 8 (8 * j) ∙ ap (λ m. 256 * m) (bits_of_bytes j) ∙ f

moved_bytes : (j k n : ℕ) → j + k ≡ 8 → take k (big_endian 8 (n * 2 ^ (8 * j) % 256 ^ 8)) ≡ drop j (big_endian 8 n)
moved_bytes j k n e =
    let f : k + j ≡ 8 = omega arith in
    let first : take k (big_endian 8 (n * 256 ^ j)) ≡ big_endian k n = subst (λ m. take k (big_endian m (n * 256 ^ j)) ≡ big_endian k n) e (before_zeros j k n) in
    let last : drop j (big_endian 8 n) ≡ big_endian k n = subst (λ m. drop j (big_endian m n) ≡ big_endian k n) f (last_bytes j k n) in
    ap (take k) (what_fits 8 (n * 2 ^ (8 * j))) ∙ ap (λ m. take k (big_endian 8 (n * m))) (bits_of_bytes j) ∙ first ∙ sym last

-- the bytes of a number but j of them, as a shift by j bytes puts them first; one by eight bytes, of which none is left, moves none
pub shifted_bytes : (j n : ℕ) → j ≤ 8 → take (8 - j) (big_endian 8 (n * 2 ^ (8 * j % 64) % 2 ^ 64)) ≡ drop j (big_endian 8 n)
shifted_bytes j n h = elim (cases_lt j 8) [
  | inl less ↦
      let e : 8 * j % 64 ≡ 8 * j = omega arith in
      rw e (moved_bytes j (8 - j) n (omega arith))
  | inr more ↦
      let e : j ≡ 8 = omega arith in
      let long = big_endian-length 8 n in
      rw e (sym (drop_all 8 (big_endian 8 n) (omega arith)))
]
