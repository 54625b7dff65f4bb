-- How a value stands to the place of a number is how its multiple stands to the number.
use Rattle.std.proofs.Common.{◌≡◌, ◌∙◌, ◌⊎◌, ◌==◌, ◌&&◌, ◌+◌, ◌-◌, ◌*◌, ◌/◌, ◌%◌, ◌<◌, ◌≤◌, inl, inr, ℕ, zero, suc, ℤ, pos, negsuc, neg_ℤ, ◌*ℤ◌, ◌<ℤ◌, Bool, true, false, not, arith, refl, sym, ap, eq-zero-or-pos, nat_lt, unsigned_abs, if◌then◌else◌}
use Rattle.std.proofs.lemmas.Bool.Decides.{nat_tests}
use Rattle.std.proofs.lemmas.Int.{ints}
use Rattle.std.proofs.Math.Nat.{div-add-mod, mod-lt}
use native.Mathlib.Nat.{mul-le-mul_left}
use Rattle.jiff_core.proofs.SignedLemmas.{signed_arith}
use Rattle.std.specs.Ordering.{int_cmp}
use Rattle.std.specs.declared.cmp.Ordering.{Ordering}
use Rattle.std.specs.declared.cmp.Ordering.TheVariants.{Less, Equal, Greater}
use Rattle.logical_types.specs.Shapes.{place_at, place_below_zero, place_from_zero}
use Rattle.logical_types.specs.declared.decimals.places.DecimalPlace.{DecimalPlace}
use Rattle.logical_types.specs.declared.decimals.places.DecimalPlace.TheVariants.{At, Behind, BelowAll, AboveAll}
use Rattle.vortex_filter.specs.Positions.{settled}

-- how a value stands to a place
abbrev pub stands_to : ℤ → DecimalPlace → Ordering
stands_to y (At z) = int_cmp y z
stands_to y (Behind z) = settled (int_cmp y z)
stands_to y BelowAll = Greater
stands_to y AboveAll = Less

-- ---- orders of integers

less : (x y : ℤ) → x <ℤ y → int_cmp x y ≡ Less
less x y h = grind (arith, ints)

greater : (x y : ℤ) → y <ℤ x → int_cmp x y ≡ Greater
greater x y h = grind (arith, ints)

equal : (x : ℤ) → int_cmp x x ≡ Equal
equal x = grind (arith, ints)

-- ---- multiples of a unit

from_zero : (a u : ℕ) → pos a *ℤ pos u ≡ pos (u * a)
from_zero a u = let e : a * u ≡ u * a = omega arith in ap pos e

below_zero : (a u : ℕ) → neg_ℤ (pos a) *ℤ pos u ≡ neg_ℤ (pos (u * a))
below_zero zero u = let e : u * zero ≡ zero = omega arith in let k : zero * u ≡ zero = omega arith in rw e (ap pos k)
below_zero (suc a) u = let e : suc a * u ≡ u * suc a = omega arith in ap (λ (n : ℕ). neg_ℤ (pos n)) e

step : (u a q : ℕ) → a < q → u * a + u ≤ u * q
step u a q h =
    let m : u * suc a ≤ u * q = mul-le-mul_left u h in
    let s : u * suc a ≡ u * a + u = omega arith in
    omega (arith, m, s)

three : (a b : ℕ) → (a < b) ⊎ ((a ≡ b) ⊎ (b < a))
three a b =
    elim (eq-zero-or-pos (b - a)) [
      | inl z ↦ elim (eq-zero-or-pos (a - b)) [ inl y ↦ inr (inl (omega arith)) | inr y ↦ inr (inr (omega arith)) ]
      | inr z ↦ inl (omega arith)
    ]

-- ---- places

low : (a b : Bool) (y z : ℤ) → int_cmp y z ≡ Less → stands_to y (if a then At z else (if b then Behind z else AboveAll)) ≡ Less
low true b y z h = h
low false true y z h = ap settled h
low false false y z h = refl

high : (a b : Bool) (y z w : ℤ) → (a ≡ true → int_cmp y z ≡ Greater) → int_cmp y w ≡ Greater → stands_to y (if a then At z else (if b then Behind w else BelowAll)) ≡ Greater
high true b y z w h g = h refl
high false true y z w h g = ap settled g
high false false y z w h g = refl

both_true : (a b : Bool) → (a && b) ≡ true → a ≡ true
both_true true b h = refl
both_true false b h = absurd cc

both_second : (a b : Bool) → (a && b) ≡ true → b ≡ true
both_second true b h = h
both_second false b h = absurd cc

at : (limit q r : ℕ) → r ≡ 0 → q < limit → place_from_zero limit q r ≡ At (pos q)
at limit q r e h =
    let z : (r == 0) ≡ true = grind (arith, nat_tests) in
    let l : nat_lt q limit ≡ true = grind (arith, nat_tests) in
    rw (z, l)

behind : (limit q r : ℕ) → 0 < r → q < limit - 1 → place_from_zero limit q r ≡ Behind (pos q)
behind limit q r e h =
    let z : (r == 0) ≡ false = grind (arith, nat_tests) in
    let l : nat_lt q (limit - 1) ≡ true = grind (arith, nat_tests) in
    rw (z, l)

above : (limit q r : ℕ) → 0 < r → limit - 1 ≤ q → place_from_zero limit q r ≡ AboveAll
above limit q r e h =
    let z : (r == 0) ≡ false = grind (arith, nat_tests) in
    let l : nat_lt q (limit - 1) ≡ false = grind (arith, nat_tests) in
    rw (z, l)

at_below : (limit q r : ℕ) → r ≡ 0 → q < limit → place_below_zero limit q r ≡ At (neg_ℤ (pos q))
at_below limit q r e h =
    let z : (r == 0) ≡ true = grind (arith, nat_tests) in
    let l : nat_lt q limit ≡ true = grind (arith, nat_tests) in
    rw (z, l)

behind_below : (limit q r : ℕ) → 0 < r → q < limit - 1 → place_below_zero limit q r ≡ Behind (neg_ℤ (pos (q + 1)))
behind_below limit q r e h =
    let z : (r == 0) ≡ false = grind (arith, nat_tests) in
    let l : nat_lt q (limit - 1) ≡ true = grind (arith, nat_tests) in
    rw (z, l)

-- ---- a number from zero on

module _ (limit u m q r : ℕ) (d : u * q + r ≡ m) (l : r < u) where
  -- and a value from zero on
  here : (a : ℕ) → a < limit → a ≡ q → stands_to (pos a) (place_from_zero limit q r) ≡ int_cmp (pos (u * a)) (pos m)
  here a h e =
      let same : u * a ≡ u * q = ap (λ (k : ℕ). u * k) e in
      elim (eq-zero-or-pos r) [
        | inl z ↦
            let product : pos (u * a) ≡ pos m = ap pos (omega (arith, same, d, z)) in
            ap (stands_to (pos a)) (at limit q r z (omega (arith, h, e))) ∙ ap (λ (k : ℕ). int_cmp (pos a) (pos k)) (sym e) ∙ equal (pos a)
            ∙ sym (ap (λ (x : ℤ). int_cmp x (pos m)) product ∙ equal (pos m))
        | inr z ↦
            let below : int_cmp (pos (u * a)) (pos m) ≡ Less = less (pos (u * a)) (pos m) (omega (arith, signed_arith, same, d, z)) in
            elim (eq-zero-or-pos (limit - 1 - q)) [
              | inl last ↦ ap (stands_to (pos a)) (above limit q r z (omega (arith, last))) ∙ sym below
              | inr more ↦
                  ap (stands_to (pos a)) (behind limit q r z (omega (arith, more))) ∙ ap (λ (k : ℕ). settled (int_cmp (pos a) (pos k))) (sym e) ∙ ap settled (equal (pos a))
                  ∙ sym below
            ]
      ]

  over : (a : ℕ) → a < limit → q < a → stands_to (pos a) (place_from_zero limit q r) ≡ int_cmp (pos (u * a)) (pos m)
  over a h e =
      let s = step u q a e in
      let past : int_cmp (pos (u * a)) (pos m) ≡ Greater = greater (pos (u * a)) (pos m) (omega (arith, signed_arith, s, d, l)) in
      let up : int_cmp (pos a) (pos q) ≡ Greater = greater (pos a) (pos q) (omega (arith, signed_arith, e)) in
      elim (eq-zero-or-pos r) [
        | inl z ↦ ap (stands_to (pos a)) (at limit q r z (omega (arith, h, e))) ∙ up ∙ sym past
        | inr z ↦ ap (stands_to (pos a)) (behind limit q r z (omega (arith, h, e))) ∙ ap settled up ∙ sym past
      ]

  up_to : (a : ℕ) → a < q → stands_to (pos a) (place_from_zero limit q r) ≡ int_cmp (pos (u * a)) (pos m)
  up_to a e =
      let s = step u a q e in
      let past : int_cmp (pos (u * a)) (pos m) ≡ Less = less (pos (u * a)) (pos m) (omega (arith, signed_arith, s, d, l)) in
      low ((r == 0) && nat_lt q limit) (not (r == 0) && nat_lt q (limit - 1)) (pos a) (pos q) (less (pos a) (pos q) (omega (arith, signed_arith, e))) ∙ sym past

  from : (a : ℕ) → a < limit → stands_to (pos a) (place_from_zero limit q r) ≡ int_cmp (pos a *ℤ pos u) (pos m)
  from a h =
      let p : int_cmp (pos (u * a)) (pos m) ≡ int_cmp (pos a *ℤ pos u) (pos m) = ap (λ (x : ℤ). int_cmp x (pos m)) (sym (from_zero a u)) in
      elim (three a q) [
        | inl e ↦ up_to a e ∙ p
        | inr o ↦ elim o [ inl e ↦ here a h e ∙ p | inr e ↦ over a h e ∙ p ]
      ]

  -- and a value below zero
  under : (a : ℕ) → 0 < a → stands_to (neg_ℤ (pos a)) (place_from_zero limit q r) ≡ int_cmp (neg_ℤ (pos a) *ℤ pos u) (pos m)
  under a h =
      let some : 0 < u = omega (arith, l) in
      let s = step u 0 a h in
      let past : int_cmp (neg_ℤ (pos (u * a))) (pos m) ≡ Less = less (neg_ℤ (pos (u * a))) (pos m) (omega (arith, signed_arith, s, some)) in
      low ((r == 0) && nat_lt q limit) (not (r == 0) && nat_lt q (limit - 1)) (neg_ℤ (pos a)) (pos q) (less (neg_ℤ (pos a)) (pos q) (omega (arith, signed_arith, h)))
      ∙ sym (ap (λ (x : ℤ). int_cmp x (pos m)) (below_zero a u) ∙ past)

-- ---- a number below zero, by its size

module _ (limit u m q r : ℕ) (d : u * q + r ≡ m) (l : r < u) (some : 0 < m) where
  not_zero : ((r == 0) && nat_lt q limit) ≡ true → 0 < q
  not_zero t =
      let z : (r == 0) ≡ true = both_true (r == 0) (nat_lt q limit) t in
      let e : r ≡ 0 = grind (arith, nat_tests) in
      elim (eq-zero-or-pos q) [
        | inl y ↦ absurd (let n : u * q ≡ u * 0 = ap (λ (k : ℕ). u * k) y in omega (arith, d, e, n, some))
        | inr y ↦ y
      ]

  beside : (a : ℕ) → stands_to (pos a) (place_below_zero limit q r) ≡ int_cmp (pos a *ℤ pos u) (neg_ℤ (pos m))
  beside a =
      let past : int_cmp (pos (u * a)) (neg_ℤ (pos m)) ≡ Greater = greater (pos (u * a)) (neg_ℤ (pos m)) (omega (arith, signed_arith, some)) in
      high ((r == 0) && nat_lt q limit) (not (r == 0) && nat_lt q (limit - 1)) (pos a) (neg_ℤ (pos q)) (neg_ℤ (pos (q + 1)))
      (λ t. let n = not_zero t in greater (pos a) (neg_ℤ (pos q)) (omega (arith, signed_arith, n))) (greater (pos a) (neg_ℤ (pos (q + 1))) (omega (arith, signed_arith)))
      ∙ sym (ap (λ (x : ℤ). int_cmp x (neg_ℤ (pos m))) (from_zero a u) ∙ past)

  short : (a : ℕ) → a < q → stands_to (neg_ℤ (pos a)) (place_below_zero limit q r) ≡ int_cmp (neg_ℤ (pos (u * a))) (neg_ℤ (pos m))
  short a e =
      let s = step u a q e in
      let past : int_cmp (neg_ℤ (pos (u * a))) (neg_ℤ (pos m)) ≡ Greater = greater (neg_ℤ (pos (u * a))) (neg_ℤ (pos m)) (omega (arith, signed_arith, s, d, l)) in
      high ((r == 0) && nat_lt q limit) (not (r == 0) && nat_lt q (limit - 1)) (neg_ℤ (pos a)) (neg_ℤ (pos q)) (neg_ℤ (pos (q + 1)))
      (λ t. greater (neg_ℤ (pos a)) (neg_ℤ (pos q)) (omega (arith, signed_arith, e))) (greater (neg_ℤ (pos a)) (neg_ℤ (pos (q + 1))) (omega (arith, signed_arith, e)))
      ∙ sym past

  level : (a : ℕ) → a < limit → a ≡ q → stands_to (neg_ℤ (pos a)) (place_below_zero limit q r) ≡ int_cmp (neg_ℤ (pos (u * a))) (neg_ℤ (pos m))
  level a h e =
      let same : u * a ≡ u * q = ap (λ (k : ℕ). u * k) e in
      elim (eq-zero-or-pos r) [
        | inl z ↦
            let product : u * a ≡ m = omega (arith, same, d, z) in
            ap (stands_to (neg_ℤ (pos a))) (at_below limit q r z (omega (arith, h, e))) ∙ ap (λ (k : ℕ). int_cmp (neg_ℤ (pos a)) (neg_ℤ (pos k))) (sym e) ∙ equal (neg_ℤ (pos a))
            ∙ sym (ap (λ (k : ℕ). int_cmp (neg_ℤ (pos k)) (neg_ℤ (pos m))) product ∙ equal (neg_ℤ (pos m)))
        | inr z ↦
            let past : int_cmp (neg_ℤ (pos (u * a))) (neg_ℤ (pos m)) ≡ Greater = greater (neg_ℤ (pos (u * a))) (neg_ℤ (pos m)) (omega (arith, signed_arith, same, d, z)) in
            let zero_test : (r == 0) ≡ false = grind (arith, nat_tests) in
            high ((r == 0) && nat_lt q limit) (not (r == 0) && nat_lt q (limit - 1)) (neg_ℤ (pos a)) (neg_ℤ (pos q)) (neg_ℤ (pos (q + 1)))
            (λ t. absurd (let g = both_true (r == 0) (nat_lt q limit) t in cc)) (greater (neg_ℤ (pos a)) (neg_ℤ (pos (q + 1))) (omega (arith, signed_arith, e)))
            ∙ sym past
      ]

  beyond : (a : ℕ) → a < limit → q < a → stands_to (neg_ℤ (pos a)) (place_below_zero limit q r) ≡ int_cmp (neg_ℤ (pos (u * a))) (neg_ℤ (pos m))
  beyond a h e =
      let s = step u q a e in
      let past : int_cmp (neg_ℤ (pos (u * a))) (neg_ℤ (pos m)) ≡ Less = less (neg_ℤ (pos (u * a))) (neg_ℤ (pos m)) (omega (arith, signed_arith, s, d, l)) in
      elim (eq-zero-or-pos r) [
        | inl z ↦ ap (stands_to (neg_ℤ (pos a))) (at_below limit q r z (omega (arith, h, e))) ∙ less (neg_ℤ (pos a)) (neg_ℤ (pos q)) (omega (arith, signed_arith, e)) ∙ sym past
        | inr z ↦
            let next : settled (int_cmp (neg_ℤ (pos a)) (neg_ℤ (pos (q + 1)))) ≡ Less =
            elim (eq-zero-or-pos (a - (q + 1))) [
              | inl y ↦ let k : a ≡ q + 1 = omega (arith, y, e) in ap (λ (j : ℕ). settled (int_cmp (neg_ℤ (pos a)) (neg_ℤ (pos j)))) (sym k) ∙ ap settled (equal (neg_ℤ (pos a)))
              | inr y ↦ ap settled (less (neg_ℤ (pos a)) (neg_ℤ (pos (q + 1))) (omega (arith, signed_arith, y)))
            ] in
            ap (stands_to (neg_ℤ (pos a))) (behind_below limit q r z (omega (arith, h, e))) ∙ next ∙ sym past
      ]

  below : (a : ℕ) → a < limit → stands_to (neg_ℤ (pos a)) (place_below_zero limit q r) ≡ int_cmp (neg_ℤ (pos a) *ℤ pos u) (neg_ℤ (pos m))
  below a h =
      let p : int_cmp (neg_ℤ (pos (u * a))) (neg_ℤ (pos m)) ≡ int_cmp (neg_ℤ (pos a) *ℤ pos u) (neg_ℤ (pos m)) = ap (λ (x : ℤ). int_cmp x (neg_ℤ (pos m))) (sym (below_zero a u)) in
      elim (three a q) [
        | inl e ↦ short a e ∙ p
        | inr o ↦ elim o [ inl e ↦ level a h e ∙ p | inr e ↦ beyond a h e ∙ p ]
      ]

-- ---- any number and any value

neg_is : (m : ℕ) → neg_ℤ (pos (m + 1)) ≡ negsuc m
neg_is m = let e : m + 1 ≡ suc m = omega arith in ap (λ (k : ℕ). neg_ℤ (pos k)) e

pub place_order : (limit unit : ℕ) (y n : ℤ) → 0 < unit → unsigned_abs y < limit → stands_to y (place_at limit unit n) ≡ int_cmp (y *ℤ pos unit) n
place_order limit unit (pos a) (pos m) s h = from limit unit m (m / unit) (m % unit) (div-add-mod m unit) (mod-lt m s) a h
place_order limit unit (negsuc b) (pos m) s h = under limit unit m (m / unit) (m % unit) (div-add-mod m unit) (mod-lt m s) (suc b) (omega arith)
place_order limit unit (pos a) (negsuc m) s h =
    beside limit unit (m + 1) ((m + 1) / unit) ((m + 1) % unit) (div-add-mod (m + 1) unit) (mod-lt (m + 1) s) (omega arith) a ∙ ap (int_cmp (pos a *ℤ pos unit)) (neg_is m)
place_order limit unit (negsuc b) (negsuc m) s h =
    below limit unit (m + 1) ((m + 1) / unit) ((m + 1) % unit) (div-add-mod (m + 1) unit) (mod-lt (m + 1) s) (omega arith) (suc b) h ∙ ap (int_cmp (negsuc b *ℤ pos unit)) (neg_is m)

-- two values stand to each other as their multiples do
pub scaled_order : (u : ℕ) (y z : ℤ) → 0 < u → int_cmp y z ≡ int_cmp (y *ℤ pos u) (z *ℤ pos u)
scaled_order u (pos a) (pos b) h =
    elim (three a b) [
      | inl e ↦ let s = step u a b e in less (pos a) (pos b) (omega (arith, signed_arith, e)) ∙ sym (less (pos (u * a)) (pos (u * b)) (omega (arith, signed_arith, s, h)))
      | inr o ↦ elim o [
        | inl e ↦ ap (λ (k : ℕ). int_cmp (pos a) (pos k)) (sym e) ∙ equal (pos a) ∙ sym (ap (λ (k : ℕ). int_cmp (pos (u * a)) (pos (u * k))) (sym e) ∙ equal (pos (u * a)))
        | inr e ↦ let s = step u b a e in greater (pos a) (pos b) (omega (arith, signed_arith, e)) ∙ sym (greater (pos (u * a)) (pos (u * b)) (omega (arith, signed_arith, s, h)))
      ]
    ]
    ∙ ap (λ (x : ℤ). int_cmp x (pos (u * b))) (sym (from_zero a u)) ∙ ap (int_cmp (pos a *ℤ pos u)) (sym (from_zero b u))
scaled_order u (pos a) (negsuc b) h =
    let s = step u 0 (suc b) (omega arith) in
    greater (pos a) (negsuc b) (omega (arith, signed_arith))
    ∙ sym (greater (pos (u * a)) (neg_ℤ (pos (u * suc b))) (omega (arith, signed_arith, s, h)))
    ∙ ap (λ (x : ℤ). int_cmp x (neg_ℤ (pos (u * suc b)))) (sym (from_zero a u)) ∙ ap (int_cmp (pos a *ℤ pos u)) (sym (below_zero (suc b) u))
scaled_order u (negsuc a) (pos b) h =
    let s = step u 0 (suc a) (omega arith) in
    less (negsuc a) (pos b) (omega (arith, signed_arith))
    ∙ sym (less (neg_ℤ (pos (u * suc a))) (pos (u * b)) (omega (arith, signed_arith, s, h)))
    ∙ ap (λ (x : ℤ). int_cmp x (pos (u * b))) (sym (below_zero (suc a) u)) ∙ ap (int_cmp (negsuc a *ℤ pos u)) (sym (from_zero b u))
scaled_order u (negsuc a) (negsuc b) h =
    elim (three a b) [
      | inl e ↦ let s = step u (suc a) (suc b) (omega (arith, e)) in greater (negsuc a) (negsuc b) (omega (arith, signed_arith, e)) ∙ sym (greater (neg_ℤ (pos (u * suc a))) (neg_ℤ (pos (u * suc b))) (omega (arith, signed_arith, s, h)))
      | inr o ↦ elim o [
        | inl e ↦
            ap (λ (k : ℕ). int_cmp (negsuc a) (negsuc k)) (sym e) ∙ equal (negsuc a)
            ∙ sym (ap (λ (k : ℕ). int_cmp (neg_ℤ (pos (u * suc a))) (neg_ℤ (pos (u * suc k)))) (sym e) ∙ equal (neg_ℤ (pos (u * suc a))))
        | inr e ↦ let s = step u (suc b) (suc a) (omega (arith, e)) in less (negsuc a) (negsuc b) (omega (arith, signed_arith, e)) ∙ sym (less (neg_ℤ (pos (u * suc a))) (neg_ℤ (pos (u * suc b))) (omega (arith, signed_arith, s, h)))
      ]
    ]
    ∙ ap (λ (x : ℤ). int_cmp x (neg_ℤ (pos (u * suc b)))) (sym (below_zero (suc a) u)) ∙ ap (int_cmp (negsuc a *ℤ pos u)) (sym (below_zero (suc b) u))

-- ---- the values that a place names

below_limit : (q r limit : ℕ) → ((r == 0) && nat_lt q limit) ≡ true → q < limit
below_limit q r limit t =
    let z : nat_lt q limit ≡ true = both_second (r == 0) (nat_lt q limit) t in
    let h : q < limit = grind (arith, nat_tests) in
    h

next_below : (q r limit : ℕ) → (not (r == 0) && nat_lt q (limit - 1)) ≡ true → q + 1 < limit
next_below q r limit t =
    let z : nat_lt q (limit - 1) ≡ true = both_second (not (r == 0)) (nat_lt q (limit - 1)) t in
    let h : q < limit - 1 = grind (arith, nat_tests) in
    omega (arith, h)

size_neg : (n : ℕ) → unsigned_abs (neg_ℤ (pos n)) ≡ n
size_neg zero = refl
size_neg (suc n) = refl

-- the value at which a place is, or behind which it is, is below the limit in size
abbrev pub Named : ℕ → DecimalPlace → Type 0
Named limit (At z) = unsigned_abs z < limit
Named limit (Behind z) = unsigned_abs z < limit
Named limit _ = Unit {0}

named_from : (limit : ℕ) (a b : Bool) (y z : ℤ) → (a ≡ true → unsigned_abs y < limit) → (b ≡ true → unsigned_abs z < limit) → Named limit (if a then At y else (if b then Behind z else AboveAll))
named_from limit true b y z h g = h refl
named_from limit false true y z h g = g refl
named_from limit false false y z h g = tt

named_below : (limit : ℕ) (a b : Bool) (y z : ℤ) → (a ≡ true → unsigned_abs y < limit) → (b ≡ true → unsigned_abs z < limit) → Named limit (if a then At y else (if b then Behind z else BelowAll))
named_below limit true b y z h g = h refl
named_below limit false true y z h g = g refl
named_below limit false false y z h g = tt

pub place_named : (limit unit : ℕ) (n : ℤ) → Named limit (place_at limit unit n)
place_named limit unit (pos m) =
    let q = m / unit in
    let r = m % unit in
    named_from limit ((r == 0) && nat_lt q limit) (not (r == 0) && nat_lt q (limit - 1)) (pos q) (pos q) (below_limit q r limit) (λ t. let h = next_below q r limit t in omega (arith, h))
place_named limit unit (negsuc m) =
    let q = (m + 1) / unit in
    let r = (m + 1) % unit in
    named_below limit ((r == 0) && nat_lt q limit) (not (r == 0) && nat_lt q (limit - 1)) (neg_ℤ (pos q)) (neg_ℤ (pos (q + 1)))
    (λ t. let h = below_limit q r limit t in omega (arith, size_neg q, h)) (λ t. let h = next_below q r limit t in omega (arith, size_neg (q + 1), h))
