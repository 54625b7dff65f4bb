-- What the table of capacities holds, and where a rate is in it.
use Rattle.std.proofs.Common.{◌≡◌, ℕ, suc, ◌+◌, ◌-◌, ◌*◌, ◌/◌, ◌<◌, ◌≤◌, ◌^◌, ◌⊎◌, inl, inr, get_or, refl, sym, ap, subst, ◌∙◌, arith, true, Bool, ◌&&◌, leb}
use Rattle.std.specs.List.{list_all}
use Rattle.std.proofs.Math.Pow.{pow_mono}
use Rattle.std.proofs.lemmas.Bool.{and_parts, cases_lt, leb-true}
use Rattle.std.proofs.lemmas.List.Recursion.{and_at}
use Rattle.std.proofs.lemmas.Nat.{le-div, leading_top, mul-le}
use Rattle.std.proofs.Math.Nat.{pow-succ'}
use lib.Count.{count_leading_zeros}
use Rattle.membership.specs.Capacities.{capacities, capacity, exponent}

within : ℕ → Bool
within c = leb 3959 c && leb c 81047

pub capacity-at : (i : ℕ) → i < 20 → (3959 ≤ get_or capacities i 0) × (get_or capacities i 0 ≤ 81047)
unfolding within
capacity-at i l =
    let h : within (get_or capacities i 0) ≡ true = and_at (list_all within) within refl (λ _ _. refl) capacities i 0 l refl in
    let parts : (leb 3959 (get_or capacities i 0) ≡ true) × (leb (get_or capacities i 0) 81047 ≡ true) = and_parts _ _ h in
    (leb-true 3959 (get_or capacities i 0) parts.0, leb-true (get_or capacities i 0) 81047 parts.1)

pub exponent-of : (rate : ℕ) → 0 < rate → rate < 524288 → (exponent rate < 19) × (2 ^ exponent rate ≤ rate) × (rate < 2 * 2 ^ exponent rate)
exponent-of rate some half =
    let found : (j : ℕ) × (count_leading_zeros 32 rate + suc j ≡ 32) × (2 ^ j ≤ rate) × (rate < 2 ^ suc j) = leading_top 32 rate some (omega arith) in
    let is : exponent rate ≡ found.0 = from_zeros (count_leading_zeros 32 rate) found.0 found.1 in
    let below : found.0 < 19 = smaller found.0 (cases_lt found.0 19) found.2 in
    let P : ℕ → Type 0 = λ j. (j < 19) × (2 ^ j ≤ rate) × (rate < 2 * 2 ^ j) in
    subst P (sym is) (below, found.2, subst (λ p. rate < p) (pow-succ' 2 found.0) found.3)
  where
    from_zeros : (z j : ℕ) → z + suc j ≡ 32 → 31 - z ≡ j
    from_zeros z j e = omega arith

    smaller : (j : ℕ) → (j < 19) ⊎ (19 ≤ j) → 2 ^ j ≤ rate → j < 19
    smaller j (inl l) h = l
    smaller j (inr g) h = let large : 2 ^ 19 ≤ 2 ^ j = pow_mono g in absurd (omega arith)

-- the capacity of a rate that lies between two powers of two
pub between-within : (low high power above : ℕ) → low ≤ 81047 → high ≤ 81047 → power ≤ 524288 → above ≤ power → low * (power - above) + high * above ≤ 81047 * 524288 * 2
between-within low high power above l h p a =
    let first : low * (power - above) ≤ 81047 * 524288 = mul-le low (power - above) 81047 524288 l (omega arith) in
    let second : high * above ≤ 81047 * 524288 = mul-le high above 81047 524288 h (omega arith) in
    omega arith

pub between-some : (low high power above : ℕ) → 0 < power → 1 ≤ low → 1 ≤ high → above ≤ power → 0 < (low * (power - above) + high * above) / power
between-some low high power above some l h a =
    let first : 1 * (power - above) ≤ low * (power - above) = mul-le 1 (power - above) low (power - above) l (omega arith) in
    let second : 1 * above ≤ high * above = mul-le 1 above high above h (omega arith) in
    let all : power ≤ low * (power - above) + high * above = omega arith in
    quotient (low * (power - above) + high * above) power some all
  where
    quotient : (x p : ℕ) → 0 < p → p ≤ x → 0 < x / p
    quotient x p some l = le-div 1 x p some (omega arith)

pub capacity-is : (rate i power : ℕ) → i ≡ exponent rate → power ≡ 2 ^ i
    → (get_or capacities i 0 * (power - (rate - power)) + get_or capacities (i + 1) 0 * (rate - power)) / power ≡ capacity rate
unfolding capacity
capacity-is rate i power e p =
    let between : ℕ → ℕ → ℕ = λ i power. (get_or capacities i 0 * (power - (rate - power)) + get_or capacities (i + 1) 0 * (rate - power)) / power in
    ap (λ x. between i x) p ∙ ap (λ k. between k (2 ^ k)) e
