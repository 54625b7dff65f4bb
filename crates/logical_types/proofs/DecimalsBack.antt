-- What is written is read.
use Rattle.std.proofs.Common.{◌≡◌, ℕ, zero, suc, ◌+◌, ◌-◌, ◌*◌, ◌/◌, ◌%◌, ◌^◌, ◌<◌, ◌≤◌, ◌==◌, ℤ, pos, negsuc, Bool, true, false, nat_lt, List, [], ◌∷◌, ◌++◌, Some, None, refl, sym, ap, ◌∙◌, arith, append_assoc, append-nil, mul-one, unsigned_abs, if◌then◌else◌, slice_index}
use Rattle.std.proofs.lemmas.Bool.Decides.{nat_tests}
use Rattle.std.proofs.lemmas.Fmt.{decimal_by_steps_wide}
use Rattle.std.proofs.Math.Nat.{pow-le-pow_right}
use native.Mathlib.Nat.{pow-suc, mul-le-mul_left}
use Rattle.std.specs.Char.{is_ascii_digit}
use Rattle.std.specs.Fmt.{decimal}
use Rattle.logical_types.specs.Decimals.{scaled, fraction_from, whole_from, decimal_value, sized_text, point_text, decimal_text}

digit_is : (d : ℕ) → d < 10 → is_ascii_digit (48 + d) ≡ true
digit_is d h = grind (arith, nat_tests)

minus_gives : (d : ℕ) → 48 + d - 48 ≡ d
minus_gives d = omega arith

fits_in : (a b : ℕ) → a < b → nat_lt a b ≡ true
fits_in a b h = grind (arith, nat_tests)

-- one digit of the whole part
whole_step : (limit scale : ℕ) (some : Bool) (v d n : ℕ) (rest : List ℕ) → d < 10 → v * 10 + d ≡ n → n < limit
    → whole_from limit scale some v ((48 + d) ∷ rest) ≡ whole_from limit scale true n rest
whole_step limit scale some v d n rest h e l =
    let m : v * 10 + (48 + d - 48) ≡ n = omega arith in
    rw (digit_is d h, m, fits_in n limit l)

-- one digit behind the point
fraction_step : (limit places : ℕ) (some : Bool) (v d n : ℕ) (rest : List ℕ) → d < 10 → 0 < places → v * 10 + d ≡ n → n < limit
    → fraction_from limit places some v ((48 + d) ∷ rest) ≡ fraction_from limit (places - 1) true n rest
fraction_step limit places some v d n rest h p e l =
    let m : v * 10 + (48 + d - 48) ≡ n = omega arith in
    let z : (places == 0) ≡ false = grind (arith, nat_tests) in
    rw (digit_is d h, z, m, fits_in n limit l)

abbrev Reads : ℕ → ℕ → ℕ → List ℕ → Type 0
Reads limit scale n ds = (rest : List ℕ) → n < limit → whole_from limit scale false 0 (ds ++ rest) ≡ whole_from limit scale true n rest

more_digits : (limit scale n : ℕ) (ds : List ℕ) → 10 ≤ n → Reads limit scale (n / 10) ds → Reads limit scale n (ds ++ ((48 + n % 10) ∷ []))
more_digits limit scale n ds h reads rest l =
    ap (whole_from limit scale false 0) (append_assoc ds ((48 + n % 10) ∷ []) rest)
    ∙ reads ((48 + n % 10) ∷ rest) (omega arith)
    ∙ whole_step limit scale true (n / 10) (n % 10) n rest (omega arith) (omega arith) l

read_decimal : (limit scale n : ℕ) → n < 10 ^ 64 → Reads limit scale n (decimal n)
read_decimal limit scale n h =
    decimal_by_steps_wide (Reads limit scale) (λ d k rest l. whole_step limit scale false 0 d d rest k (omega arith) l) (more_digits limit scale) n h

-- with so many places written behind the point
read_sized : (limit scale k n : ℕ) (rest : List ℕ) → k ≤ scale → n < limit → n < 10 ^ 64
    → (some : Bool) × (whole_from limit scale false 0 (sized_text k (46 ∷ []) n ++ rest) ≡ fraction_from limit (scale - k) some n rest) × (0 < k → some ≡ true)
read_sized limit scale zero n rest a b h = (
  false,
  ap (whole_from limit scale false 0) (append_assoc (decimal n) (46 ∷ []) rest) ∙ read_decimal limit scale n h (46 ∷ rest) b ∙ (let z : scale ≡ scale - 0 = omega arith in ap (λ (j : ℕ). fraction_from limit j false n rest) z),
  λ l. absurd (omega arith),
)
read_sized limit scale (suc k) n rest a b h =
    let i = read_sized limit scale k (n / 10) ((48 + n % 10) ∷ rest) (omega arith) (omega arith) (omega arith) in
    let e : scale - k - 1 ≡ scale - suc k = omega arith in (
      true,
      ap (whole_from limit scale false 0) (append_assoc (sized_text k (46 ∷ []) (n / 10)) ((48 + n % 10) ∷ []) rest)
          ∙ i.1
          ∙ fraction_step limit (scale - k) i.0 (n / 10) (n % 10) n rest (omega arith) (omega arith) (omega arith) b
          ∙ ap (λ (j : ℕ). fraction_from limit j true n rest) e,
      λ l. refl,
    )

none_scaled : (limit n : ℕ) → n < limit → scaled limit 0 n ≡ Some n
none_scaled limit n h = let e : n * 10 ^ 0 ≡ n = mul-one n in rw (e, fits_in n limit h)

read_text : (limit scale n : ℕ) → n < limit → n < 10 ^ 64 → whole_from limit scale false 0 (sized_text scale (point_text scale) n) ≡ Some n
read_text limit zero n h l =
    read_decimal limit 0 n l [] h ∙ none_scaled limit n h
read_text limit (suc k) n h l =
    let i = read_sized limit (suc k) (suc k) n [] (omega arith) h l in
    let z : suc k - suc k ≡ 0 = omega arith in
    let y : (suc k == 0) ≡ false = grind (arith, nat_tests) in
    let p : point_text (suc k) ≡ 46 ∷ [] = ap (λ (b : Bool). if b then [] else 46 ∷ []) y in
    ap (λ (point : List ℕ). whole_from limit (suc k) false 0 (sized_text (suc k) point n)) p
    ∙ ap (whole_from limit (suc k) false 0) (sym (append-nil (sized_text (suc k) (46 ∷ []) n)))
    ∙ i.1
    ∙ ap (λ (j : ℕ). fraction_from limit j i.0 n []) z
    ∙ ap (λ (b : Bool). fraction_from limit 0 b n []) (i.2 (omega arith))
    ∙ none_scaled limit n h

no_minus : (limit scale n : ℕ) (text : List ℕ) → whole_from limit scale false 0 text ≡ Some n → (slice_index text 0 == 45) ≡ false
no_minus limit scale n [] h = refl
no_minus limit scale n (c ∷ cs) h = go (c == 45) refl
  where
    go : (b : Bool) → (c == 45) ≡ b → b ≡ false
    go false e = refl
    go true e = let k : c ≡ 45 = grind (arith, nat_tests) in let g : whole_from limit scale false 0 (45 ∷ cs) ≡ Some n = ap (λ (x : ℕ). whole_from limit scale false 0 (x ∷ cs)) (sym k) ∙ h in cc

pub read_back : (limit scale : ℕ) (z : ℤ) → unsigned_abs z < limit → unsigned_abs z < 10 ^ 64 → decimal_value limit scale (decimal_text scale z) ≡ Some z
read_back limit scale (pos n) h l =
    let r = read_text limit scale n h l in
    let m = no_minus limit scale n (sized_text scale (point_text scale) n) r in
    rw (m, r)
read_back limit scale (negsuc n) h l = let r = read_text limit scale (suc n) h l in rw r

-- the limit of a decimal type
pub limit_small : (p : ℕ) → p ≤ 38 → 10 ^ p ≤ 10 ^ 38
limit_small p h = pow-le-pow_right (omega arith) h

pub limit_some : (p : ℕ) → 0 < 10 ^ p
limit_some zero = omega arith
limit_some (suc p) = let i = limit_some p in let e : 10 ^ suc p ≡ 10 ^ p * 10 = pow-suc 10 p in omega arith

-- ---- zeros behind a value
pub scaled_some : (limit places value p : ℕ) → p ≡ value * 10 ^ places → p < limit → Some p ≡ scaled limit places value
scaled_some limit places value p e h = let k : value * 10 ^ places < limit = omega (arith, sym e) in rw (fits_in (value * 10 ^ places) limit k, sym e)

pub scaled_none : (limit places value i p : ℕ) → p ≡ value * 10 ^ i → i < places → limit ≤ p * 10 → None ≡ scaled limit places value
scaled_none limit places value i p e l h =
    let a : 10 ^ suc i ≤ 10 ^ places = pow-le-pow_right (omega arith) l in
    let b : 10 ^ suc i ≡ 10 ^ i * 10 = pow-suc 10 i in
    let c : value * 10 ^ suc i ≤ value * 10 ^ places = mul-le-mul_left value a in
    let d : value * 10 ^ suc i ≡ value * (10 ^ i * 10) = ap (λ (k : ℕ). value * k) b in
    let f : limit ≤ value * 10 ^ places = omega arith in
    let g : nat_lt (value * 10 ^ places) limit ≡ false = grind (arith, nat_tests) in
    rw g

pub scaled_step : (value i p : ℕ) → p ≡ value * 10 ^ i → p * 10 ≡ value * 10 ^ (i + 1)
scaled_step value i p e = let b : 10 ^ suc i ≡ 10 ^ i * 10 = pow-suc 10 i in let d : value * 10 ^ suc i ≡ value * (10 ^ i * 10) = ap (λ (k : ℕ). value * k) b in let g : i + 1 ≡ suc i = omega arith in ap (λ (k : ℕ). k * 10) e ∙ omega arith ∙ ap (λ (k : ℕ). value * 10 ^ k) (sym g)
