-- Numbers from their bytes, the low one first.
use Rattle.std.proofs.Common.{◌≡◌, ◌∙◌, ◌+◌, ◌*◌, ◌/◌, ◌%◌, ◌^◌, ◌<◌, ℕ, zero, suc, ℤ, List, SFits, refl, ap, arith}
use Rattle.std.specs.Int.{Width, byte_at, byte_worth, cast_signed, cast_unsigned, from_le_bytes, sum_through, to_le_bytes, w128, w32, w64}
use native.Mathlib.Nat.{mul_comm, pow-suc}
use Rattle.std.proofs.Math.Arith.{mod-mul}
use Rattle.std.proofs.Math.Facts.{Fits-of_z}
use Rattle.std.proofs.Math.Nat.{mod-eq_of_lt}
use Rattle.std.proofs.lemmas.Int.{to_z-of_z}
use Rattle.std.proofs.lemmas.Nat.{from_le_bytes-to_le_bytes_4, from_le_bytes-to_le_bytes_8}

-- what byte i of n is worth
worth : ℕ → ℕ → ℕ
worth n i = byte_worth i (byte_at i n)

above_zero : (k : ℕ) → 0 < 256 ^ k
above_zero zero = omega arith
above_zero (suc k) = let i = above_zero k in let e : 256 ^ suc k ≡ 256 ^ k * 256 = pow-suc 256 k in omega arith

through : (n k : ℕ) → sum_through (worth n) k ≡ n % 256 ^ suc k
unfolding worth
through n zero = ap (λ p. n % p) one
  where
    one : 256 ≡ 256 ^ suc zero
    one = refl
through n (suc k) =
    let low : sum_through (worth n) k ≡ n % 256 ^ suc k = through n k in
    let two : n % (256 * 256 ^ suc k) ≡ n / 256 ^ suc k % 256 * 256 ^ suc k + n % 256 ^ suc k = mod-mul n (omega arith) (above_zero (suc k)) in
    let power : 256 ^ suc (suc k) ≡ 256 * 256 ^ suc k = pow-suc 256 (suc k) ∙ mul_comm (256 ^ suc k) 256 in
    let here : worth n (suc k) ≡ n / 256 ^ suc k % 256 * 256 ^ suc k = refl in
    let there : n % 256 ^ suc (suc k) ≡ n % (256 * 256 ^ suc k) = ap (λ p. n % p) power in
    sums (sum_through (worth n) k) (worth n (suc k)) _ _ _ _ low here two there
  where
    sums : (s w l h t u : ℕ) → s ≡ l → w ≡ h → t ≡ h + l → u ≡ t → s + w ≡ u
    sums s w l h t u e f g i = omega arith

sixteen : (n : ℕ) → n < 2 ^ 128 → from_le_bytes w128 (to_le_bytes w128 n) ≡ n
unfolding worth
sixteen n l = through n 15 ∙ mod-eq_of_lt l

-- of what a call is given, the number as it is handed over

pub same_bytes : (w : Width) (z : ℤ) (bytes : List ℕ) → SFits w z → bytes ≡ to_le_bytes w (cast_unsigned w (cast_signed w (cast_unsigned w z))) → bytes ≡ to_le_bytes w (cast_unsigned w z)
same_bytes w z bytes h e = e ∙ ap (λ y. to_le_bytes w (cast_unsigned w y)) (to_z-of_z w z h)

pub back_4 : (z : ℤ) (bytes : List ℕ) → SFits w32 z → bytes ≡ to_le_bytes w32 (cast_unsigned w32 z) → cast_signed w32 (from_le_bytes w32 bytes) ≡ z
back_4 z bytes h e = ap (λ bs. cast_signed w32 (from_le_bytes w32 bs)) e ∙ ap (cast_signed w32) (from_le_bytes-to_le_bytes_4 (cast_unsigned w32 z) (Fits-of_z h).fits) ∙ to_z-of_z w32 z h

pub back_8 : (z : ℤ) (bytes : List ℕ) → SFits w64 z → bytes ≡ to_le_bytes w64 (cast_unsigned w64 z) → cast_signed w64 (from_le_bytes w64 bytes) ≡ z
back_8 z bytes h e = ap (λ bs. cast_signed w64 (from_le_bytes w64 bs)) e ∙ ap (cast_signed w64) (from_le_bytes-to_le_bytes_8 (cast_unsigned w64 z) (Fits-of_z h).fits) ∙ to_z-of_z w64 z h

pub back_16 : (z : ℤ) (bytes : List ℕ) → SFits w128 z → bytes ≡ to_le_bytes w128 (cast_unsigned w128 z) → cast_signed w128 (from_le_bytes w128 bytes) ≡ z
back_16 z bytes h e = ap (λ bs. cast_signed w128 (from_le_bytes w128 bs)) e ∙ ap (cast_signed w128) (sixteen (cast_unsigned w128 z) (Fits-of_z h).fits) ∙ to_z-of_z w128 z h
