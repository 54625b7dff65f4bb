-- A decimal that is read at two scales is the same number.
use Rattle.std.proofs.Common.{◌≡◌, ◌∙◌, ◌==◌, ◌&&◌, ◌+◌, ◌-◌, ◌*◌, ◌^◌, ◌<◌, ◌≤◌, ℕ, zero, suc, ℤ, pos, neg_ℤ, ◌*ℤ◌, Bool, true, false, List, [], ◌∷◌, Option, Some, None, arith, drop, eq-zero-or-pos, inl, inr, refl, sym, ap, nat_lt, slice_index, if◌then◌else◌}
use Rattle.std.proofs.lemmas.Bool.Decides.{nat_tests}
use Rattle.std.proofs.lemmas.Nat.{pow-add}
use native.Mathlib.Nat.{mul_assoc, pow-suc}
use Rattle.std.specs.Char.{is_ascii_digit}
use Rattle.std.specs.Option.{option_map}
use Rattle.logical_types.specs.Decimals.{decimal_value, fraction_from, scaled, whole_from}

-- a way that gives a number is taken
taken : (b : Bool) (x : Option ℕ) (a : ℕ) → (if b then x else None) ≡ Some a → (b ≡ true) × (x ≡ Some a)
taken true x a e = (refl, e)
taken false x a e = absurd cc

scaled_is : (limit places value a : ℕ) → scaled limit places value ≡ Some a → value * 10 ^ places ≡ a
scaled_is limit places value a e =
    let t = taken (nat_lt (value * 10 ^ places) limit) (Some (value * 10 ^ places)) a e in
    let s : value * 10 ^ places ≡ a = (let g = t.1 in cc) in
    s

-- a digit more, and a place less
digit_more : (v c k : ℕ) → 0 < k → (v * 10 + c) * 10 ^ (k - 1) ≡ v * 10 ^ k + c * 10 ^ (k - 1)
digit_more v c zero h = absurd (omega (arith, h))
digit_more v c (suc k) h =
    let p : 10 ^ suc k ≡ 10 ^ k * 10 = pow-suc 10 k in
    let e : suc k - 1 ≡ k = omega arith in
    let q : (v * 10 + c) * 10 ^ k ≡ v * 10 * 10 ^ k + c * 10 ^ k = omega arith in
    let s : v * 10 * 10 ^ k ≡ v * (10 ^ k * 10) = omega arith in
    rw (e, p) (q ∙ ap (λ (n : ℕ). n + c * 10 ^ k) s)

-- what both readings are worth if only zeros follow
step_worth : (v w d p q e : ℕ) → 0 < p → q ≡ p + e → w * 10 ^ q ≡ v * 10 ^ p * 10 ^ e → (w * 10 + d) * 10 ^ (q - 1) ≡ (v * 10 + d) * 10 ^ (p - 1) * 10 ^ e
step_worth v w d p q e h j i =
    let some : 0 < q = omega (arith, h, j) in
    let places : q - 1 ≡ p - 1 + e = omega (arith, h, j) in
    let split : 10 ^ (q - 1) ≡ 10 ^ (p - 1) * 10 ^ e = ap (λ (k : ℕ). 10 ^ k) places ∙ pow-add 10 (p - 1) e in
    digit_more w d q some
    ∙ ap (λ (n : ℕ). n + d * 10 ^ (q - 1)) i
    ∙ ap (λ (n : ℕ). v * 10 ^ p * 10 ^ e + d * n) split
    ∙ (let g : v * 10 ^ p * 10 ^ e + d * (10 ^ (p - 1) * 10 ^ e) ≡ (v * 10 ^ p + d * 10 ^ (p - 1)) * 10 ^ e = omega arith in g)
    ∙ ap (λ (n : ℕ). n * 10 ^ e) (sym (digit_more v d p h))

zero_worth : (w d q : ℕ) → 0 < q → d ≡ 0 → (w * 10 + d) * 10 ^ (q - 1) ≡ w * 10 ^ q
zero_worth w d q h z =
    let n : d * 10 ^ (q - 1) ≡ 0 = ap (λ (k : ℕ). k * 10 ^ (q - 1)) z ∙ omega arith in
    digit_more w d q h ∙ ap (λ (k : ℕ). w * 10 ^ q + k) n ∙ omega arith

-- the tests of the places left
abbrev rest_of : ℕ → ℕ → ℕ → ℕ → List ℕ → Option ℕ
rest_of limit places value c cs =
    if places == 0 then (if c == 48 then fraction_from limit 0 true value cs else None)
    else (if nat_lt (value * 10 + (c - 48)) limit then fraction_from limit (places - 1) true (value * 10 + (c - 48)) cs else None)

no_places : (limit places value c : ℕ) (cs : List ℕ) (a : ℕ) → places ≡ 0 → rest_of limit places value c cs ≡ Some a → (c - 48 ≡ 0) × (fraction_from limit 0 true value cs ≡ Some a)
no_places limit places value c cs a z e =
    let y : (places == 0) ≡ true = grind (arith, nat_tests) in
    let t = taken (c == 48) (fraction_from limit 0 true value cs) a (rw y at e) in
    let g = t.0 in
    let same : c - 48 ≡ 0 = grind (arith, nat_tests) in
    (same, t.1)

some_places : (limit places value c : ℕ) (cs : List ℕ) (a : ℕ) → 0 < places → rest_of limit places value c cs ≡ Some a → fraction_from limit (places - 1) true (value * 10 + (c - 48)) cs ≡ Some a
some_places limit places value c cs a z e =
    let y : (places == 0) ≡ false = grind (arith, nat_tests) in
    let t = taken (nat_lt (value * 10 + (c - 48)) limit) (fraction_from limit (places - 1) true (value * 10 + (c - 48)) cs) a (rw y at e) in
    t.1

fraction_finer : (limit other p q e : ℕ) (some more : Bool) (v w : ℕ) (cs : List ℕ) (a b : ℕ) → (0 < p → q ≡ p + e) → w * 10 ^ q ≡ v * 10 ^ p * 10 ^ e
    → fraction_from limit p some v cs ≡ Some a → fraction_from other q more w cs ≡ Some b → a * 10 ^ e ≡ b
fraction_finer limit other p q e some more v w [] a b j i x y =
    let s = scaled_is limit p v a (taken some (scaled limit p v) a x).1 in
    let t = scaled_is other q w b (taken more (scaled other q w) b y).1 in
    ap (λ (n : ℕ). n * 10 ^ e) (sym s) ∙ sym i ∙ t
fraction_finer limit other p q e some more v w (c ∷ cs) a b j i x y =
    let s = (taken (is_ascii_digit c) (rest_of limit p v c cs) a x).1 in
    let t = (taken (is_ascii_digit c) (rest_of other q w c cs) b y).1 in
    elim (eq-zero-or-pos p) [
      | inl z ↦
          let first = no_places limit p v c cs a z s in
          let worth : v * 10 ^ p * 10 ^ e ≡ v * 10 ^ 0 * 10 ^ e = ap (λ (k : ℕ). v * 10 ^ k * 10 ^ e) z in
          elim (eq-zero-or-pos q) [
            | inl u ↦
                let second = no_places other q w c cs b u t in
                fraction_finer limit other 0 0 e true true v w cs a b (λ h. absurd (omega (arith, h))) (ap (λ (k : ℕ). w * 10 ^ k) (sym u) ∙ i ∙ worth) first.1 second.1
            | inr u ↦
                fraction_finer limit other 0 (q - 1) e true true v (w * 10 + (c - 48)) cs a b (λ h. absurd (omega (arith, h))) (zero_worth w (c - 48) q u first.0 ∙ i ∙ worth) first.1
                (some_places other q w c cs b u t)
          ]
      | inr z ↦
          let u : 0 < q = (let g = j z in omega (arith, z, g)) in
          fraction_finer limit other (p - 1) (q - 1) e true true (v * 10 + (c - 48)) (w * 10 + (c - 48)) cs a b (λ h. let g = j z in omega (arith, h, z, g))
          (step_worth v w (c - 48) p q e z (j z) i) (some_places limit p v c cs a z s) (some_places other q w c cs b u t)
    ]

finer_worth : (v s f e : ℕ) → f ≡ s + e → v * 10 ^ f ≡ v * 10 ^ s * 10 ^ e
finer_worth v s f e j = ap (λ (k : ℕ). v * 10 ^ k) j ∙ ap (λ (k : ℕ). v * k) (pow-add 10 s e) ∙ sym (mul_assoc v (10 ^ s) (10 ^ e))

-- two readings go the same way
same_way : (g : Bool) (x y u w : Option ℕ) (a b : ℕ) (P : Type 0) → (if g then x else y) ≡ Some a → (if g then u else w) ≡ Some b → (x ≡ Some a → u ≡ Some b → P) → (y ≡ Some a → w ≡ Some b → P) → P
same_way true x y u w a b P s t p q = p s t
same_way false x y u w a b P s t p q = q s t

whole_finer : (limit other s f e : ℕ) (some : Bool) (v : ℕ) (cs : List ℕ) (a b : ℕ) → f ≡ s + e → whole_from limit s some v cs ≡ Some a → whole_from other f some v cs ≡ Some b → a * 10 ^ e ≡ b
whole_finer limit other s f e some v [] a b j x y =
    let p = scaled_is limit s v a (taken some (scaled limit s v) a x).1 in
    let q = scaled_is other f v b (taken some (scaled other f v) b y).1 in
    ap (λ (n : ℕ). n * 10 ^ e) (sym p) ∙ sym (finer_worth v s f e j) ∙ q
whole_finer limit other s f e some v (c ∷ cs) a b j x y =
    same_way (is_ascii_digit c) _ _ _ _ a b (a * 10 ^ e ≡ b) x y
    (λ m n.
    whole_finer limit other s f e true (v * 10 + (c - 48)) cs a b j
    (taken (nat_lt (v * 10 + (c - 48)) limit) (whole_from limit s true (v * 10 + (c - 48)) cs) a m).1
    (taken (nat_lt (v * 10 + (c - 48)) other) (whole_from other f true (v * 10 + (c - 48)) cs) b n).1)
    (λ m n.
    fraction_finer limit other s f e false false v v cs a b (λ h. j) (finer_worth v s f e j) (taken (some && c == 46) (fraction_from limit s false v cs) a m).1
    (taken (some && c == 46) (fraction_from other f false v cs) b n).1)

below_zero : (a u : ℕ) → neg_ℤ (pos a) *ℤ pos u ≡ neg_ℤ (pos (a * u))
below_zero zero u = let k : zero * u ≡ zero = omega arith in rw k refl
below_zero (suc a) u = refl

mapped : (g : ℕ → ℤ) (o : Option ℕ) (z : ℤ) → option_map g o ≡ Some z → (a : ℕ) × (o ≡ Some a) × (g a ≡ z)
mapped g None z h = absurd cc
mapped g (Some a) z h = let same : g a ≡ z = cc in (a, refl, same)

pub finer : (limit other scale fine : ℕ) (word : List ℕ) (z n : ℤ) → scale ≤ fine → decimal_value limit scale word ≡ Some z → decimal_value other fine word ≡ Some n → z *ℤ pos (10 ^ (fine - scale)) ≡ n
finer limit other scale fine word z n h x y = by_sign (slice_index word 0 == 45) refl
  where
    split : fine ≡ scale + (fine - scale)
    split = omega (arith, h)

    by_sign : (b : Bool) → (slice_index word 0 == 45) ≡ b → z *ℤ pos (10 ^ (fine - scale)) ≡ n
    by_sign true s =
        let p = mapped (λ k. neg_ℤ (pos k)) (whole_from limit scale false 0 (drop 1 word)) z (rw s at x) in
        let q = mapped (λ k. neg_ℤ (pos k)) (whole_from other fine false 0 (drop 1 word)) n (rw s at y) in
        let same = whole_finer limit other scale fine (fine - scale) false 0 (drop 1 word) p.0 q.0 split p.1 q.1 in
        ap (λ (k : ℤ). k *ℤ pos (10 ^ (fine - scale))) (sym p.2) ∙ below_zero p.0 (10 ^ (fine - scale)) ∙ ap (λ (k : ℕ). neg_ℤ (pos k)) same ∙ q.2
    by_sign false s =
        let p = mapped pos (whole_from limit scale false 0 word) z (rw s at x) in
        let q = mapped pos (whole_from other fine false 0 word) n (rw s at y) in
        let same = whole_finer limit other scale fine (fine - scale) false 0 word p.0 q.0 split p.1 q.1 in
        ap (λ (k : ℤ). k *ℤ pos (10 ^ (fine - scale))) (sym p.2) ∙ ap pos same ∙ q.2
