-- The zeros of a byte, counted bit by bit.
use Rattle.std.proofs.Common.{◌≡◌, ◌∙◌, ◌==◌, ◌||◌, ℕ, ℤ, ◌+◌, ◌*◌, ◌/◌, ◌%◌, ◌<◌, ◌⊎◌, Bool, List, None, Some, add-one, ap, arith, cond, inl, inr, length, refl, slice_index, suc, subst, sym, true, false, zero}
use Rattle.std.proofs.lemmas.Bool.{eqb-true, ne_eqb}
use Rattle.std.specs.Int.{bit_at, count_zeros, w8}
use Rattle.std.specs.Int.Count.{ones, ones_in}
use Rattle.std.specs.Option.{is_none}
use Rattle.arrow_columns.specs.Cells.{cell_at}

-- how many of the bits below j are zeros
abbrev pub zeros_below : ℕ → ℕ → ℕ
zeros_below n zero = 0
zeros_below n (suc j) = zeros_below n j + cond (bit_at n j == 1) 0 1

-- of each number below m the zeros are counted so
abbrev same_below : ℕ → Bool
same_below zero = true
same_below (suc n) = cond (count_zeros w8 n == zeros_below n 8) (same_below n) false

both : (b : Bool) (c : Bool) → cond b c false ≡ true → (b ≡ true) × (c ≡ true)
both true c h = (refl, h)
both false c h = cc

same_at : (m n : ℕ) → n < m → same_below m ≡ true → count_zeros w8 n ≡ zeros_below n 8
same_at zero n l h = absurd (omega arith)
same_at (suc m) n l h =
    let p : (count_zeros w8 m == zeros_below m 8 ≡ true) × (same_below m ≡ true) = both (count_zeros w8 m == zeros_below m 8) (same_below m) h in
    let w : (n < m) ⊎ (n ≡ m) = search (arith) in
    elim w [
      | inl k ↦ same_at m n k p.1
      | inr e ↦ subst (λ k. count_zeros w8 k ≡ zeros_below k 8) (sym e) (eqb-true (count_zeros w8 m) (zeros_below m 8) p.0)
    ]

pub zeros_counted : (n : ℕ) → n < 256 → count_zeros w8 n ≡ zeros_below n 8
unfolding ones ones_in
zeros_counted n l = same_at 256 n l refl

-- one more bit
zeros_more : (n j : ℕ) → zeros_below n (j + 1) ≡ zeros_below n j + cond (bit_at n j == 1) 0 1
zeros_more n j = ap (zeros_below n) (add-one j)

abbrev one_if : Bool → ℕ
one_if b = cond b 1 0

abbrev one_unless : Bool → ℕ
one_unless b = cond b 0 1

null_or_not : (b : Bool) (x : ℤ) → one_if (is_none (cond b (Some x) None)) ≡ one_unless b
null_or_not true x = refl
null_or_not false x = refl

pub zeros_step : (nulls n j : ℕ) (x : ℤ) → nulls + zeros_below n (j + 1) ≡ nulls + zeros_below n j + cond (is_none (cond (bit_at n j == 1) (Some x) None)) 1 0
zeros_step nulls n j x =
    let more = zeros_more n j in
    let one = null_or_not (bit_at n j == 1) x in
    omega (arith, more, one)

-- the cell of bit j of byte b
pub cell_in_byte : (validity : List ℕ) (value : ℕ → ℤ) (b j i : ℕ) (x : ℤ) → b < length validity → j < 8 → 8 * b + j ≡ i → x ≡ value i
    → cell_at validity value i ≡ cond (bit_at (slice_index validity b) j == 1) (Some x) None
cell_in_byte validity value b j i x l k e v =
    let byte : i / 8 ≡ b = omega arith in
    let bit : i % 8 ≡ j = omega arith in
    let there : (length validity == 0) ≡ false = ne_eqb (length validity) 0 (λ z. omega arith) in
    ap (λ t. cond (t || (bit_at (slice_index validity (i / 8)) (i % 8) == 1)) (Some (value i)) None) there
    ∙ ap (λ c. cond (bit_at (slice_index validity c) (i % 8) == 1) (Some (value i)) None) byte
    ∙ ap (λ d. cond (bit_at (slice_index validity b) d == 1) (Some (value i)) None) bit
    ∙ ap (λ y. cond (bit_at (slice_index validity b) j == 1) (Some y) None) (sym v)
