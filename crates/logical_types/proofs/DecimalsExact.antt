-- What is read is worth what is written.
use Rattle.std.proofs.Common.{◌≡◌, ◌⊎◌, inl, inr, ℕ, zero, suc, ◌+◌, ◌-◌, ◌*◌, ◌^◌, ◌<◌, ◌==◌, ◌&&◌, ℤ, pos, neg_ℤ, Bool, true, false, nat_lt, List, [], ◌∷◌, ◌++◌, Option, Some, None, length, drop, get_or, refl, sym, ap, ◌∙◌, arith, if◌then◌else◌}
use native.Mathlib.Nat.{pow-suc, mul-one}
use Rattle.std.proofs.lemmas.Bool.Decides.{nat_tests}
use Rattle.std.specs.Char.{digit_value, is_ascii_digit}
use Rattle.std.specs.Option.{option_map}
use Rattle.std.specs.Str.Parse.{AllDigits, digits_value_after}
use Rattle.logical_types.specs.DecimalWorth.{IsWorth, after_point}
use Rattle.logical_types.specs.Decimals.{scaled, fraction_from, whole_from, decimal_value}
use Rattle.logical_types.specs.Places.{number_at}

chosen : (b : Bool) (x y : Option ℕ) (m : ℕ) → (if b then x else y) ≡ Some m → ((b ≡ true) × (x ≡ Some m)) ⊎ ((b ≡ false) × (y ≡ Some m))
chosen true x y m h = inl (refl, h)
chosen false x y m h = inr (refl, h)

no_choice : (m : ℕ) → None ≡ Some m → ⊥
no_choice m h = cc

scaled_is : (limit places value m : ℕ) → scaled limit places value ≡ Some m → m ≡ value * 10 ^ places
scaled_is limit places value m h = elim (chosen (nat_lt (value * 10 ^ places) limit) _ _ m h) [ inl (_, e) ↦ let k : value * 10 ^ places ≡ m = cc in sym k | inr (_, e) ↦ absurd (no_choice m e) ]

digit_small : (c : ℕ) → is_ascii_digit c ≡ true → digit_value c < 10
digit_small c h = grind (arith, nat_tests)

digit_worth : (c : ℕ) → is_ascii_digit c ≡ true → digit_value c ≡ c - 48
digit_worth c h = grind (arith, nat_tests)

-- past the places: zeros alone
record AreZeros (v m : ℕ) (cs : List ℕ) : Type 0 where
  pub same : m ≡ v
  pub digits : AllDigits 10 cs
  pub zeros : (n : ℕ) → digits_value_after 10 n cs ≡ n * 10 ^ length cs

only_zeros : (limit v m : ℕ) (some : Bool) (cs : List ℕ) → fraction_from limit 0 some v cs ≡ Some m → AreZeros v m cs
only_zeros limit v m true [] h = record { same = scaled_is limit 0 v m h ∙ mul-one v; digits = tt; zeros = λ n. sym (mul-one n) }
only_zeros limit v m false [] h = absurd (no_choice m h)
only_zeros limit v m some (c ∷ cs) h =
    elim (chosen (is_ascii_digit c) _ _ m h) [
      | inl (digit, e) ↦ elim (chosen (c == 48) _ _ m e) [
        | inl (is, e1) ↦
            let zero_byte : c ≡ 48 = grind (arith, nat_tests) in
            let rest = only_zeros limit v m true cs e1 in
            let worth : digit_value c ≡ 0 = digit_worth c digit ∙ (let k : c - 48 ≡ 0 = omega arith in k) in
            record {
              same = rest.same;
              digits = (digit_small c digit, rest.digits);
              zeros = λ n.
                  ap (λ (d : ℕ). digits_value_after 10 (n * 10 + d) cs) worth ∙ rest.zeros (n * 10 + 0)
                  ∙ (let p : 10 ^ suc (length cs) ≡ 10 ^ length cs * 10 = pow-suc 10 (length cs) in let q : n * 10 ^ suc (length cs) ≡ n * (10 ^ length cs * 10) = ap (λ (k : ℕ). n * k) p in let g : (n * 10 + 0) * 10 ^ length cs ≡ n * 10 ^ suc (length cs) = omega arith in g);
            }
        | inr (_, e1) ↦ absurd (no_choice m e1)
      ]
      | inr (_, e) ↦ absurd (no_choice m e)
    ]

record IsFraction (v m places : ℕ) (some : Bool) (cs : List ℕ) : Type 0 where
  pub digits : AllDigits 10 cs
  pub worth : m * 10 ^ length cs ≡ digits_value_after 10 v cs * 10 ^ places
  pub any : some ≡ false → 0 < length cs

step_worth : (m k d p : ℕ) → m * 10 ^ k ≡ d * 10 ^ p → m * 10 ^ suc k ≡ d * 10 ^ suc p
step_worth m k d p h =
    let a : 10 ^ suc k ≡ 10 ^ k * 10 = pow-suc 10 k in
    let b : 10 ^ suc p ≡ 10 ^ p * 10 = pow-suc 10 p in
    let c : m * 10 ^ suc k ≡ m * (10 ^ k * 10) = ap (λ (x : ℕ). m * x) a in
    let e : d * 10 ^ suc p ≡ d * (10 ^ p * 10) = ap (λ (x : ℕ). d * x) b in
    let f : m * 10 ^ k * 10 ≡ d * 10 ^ p * 10 = ap (λ (x : ℕ). x * 10) h in
    omega arith

fraction_is : (limit v m places : ℕ) (some : Bool) (cs : List ℕ) → fraction_from limit places some v cs ≡ Some m → IsFraction v m places some cs
fraction_is limit v m places true [] h = record { digits = tt; worth = mul-one m ∙ scaled_is limit places v m h; any = λ e. cc }
fraction_is limit v m places false [] h = absurd (no_choice m h)
fraction_is limit v m zero some (c ∷ cs) h =
    let z = only_zeros limit v m some (c ∷ cs) h in
    record { digits = z.digits; worth = ap (λ (x : ℕ). x * 10 ^ length (c ∷ cs)) z.same ∙ sym (z.zeros v) ∙ sym (mul-one (digits_value_after 10 v (c ∷ cs))); any = λ e. omega arith }
fraction_is limit v m (suc places) some (c ∷ cs) h =
    elim (chosen (is_ascii_digit c) _ _ m h) [
      | inl (digit, e) ↦ elim (chosen (suc places == 0) _ _ m e) [
        | inl (is, _) ↦ absurd (let k : suc places ≡ 0 = grind (arith, nat_tests) in omega arith)
        | inr (_, e1) ↦ elim (chosen (nat_lt (v * 10 + (c - 48)) limit) _ _ m e1) [
          | inl (_, e2) ↦
              let back : suc places - 1 ≡ places = omega arith in
              let rest = fraction_is limit (v * 10 + (c - 48)) m places true cs (ap (λ (p : ℕ). fraction_from limit p true (v * 10 + (c - 48)) cs) (sym back) ∙ e2) in
              record {
                digits = (digit_small c digit, rest.digits);
                worth = step_worth m (length cs) (digits_value_after 10 (v * 10 + (c - 48)) cs) places rest.worth ∙ ap (λ (d : ℕ). digits_value_after 10 (v * 10 + d) cs * 10 ^ suc places) (sym (digit_worth c digit));
                any = λ x. omega arith;
              }
          | inr (_, e2) ↦ absurd (no_choice m e2)
        ]
      ]
      | inr (_, e) ↦ absurd (no_choice m e)
    ]

record IsNumber (v m scale : ℕ) (some : Bool) (ws : List ℕ) : Type 0 where
  pub whole : List ℕ
  pub fraction : List ℕ
  pub text : ws ≡ whole ++ after_point fraction
  pub digits : AllDigits 10 (whole ++ fraction)
  pub worth : m * 10 ^ length fraction ≡ digits_value_after 10 v (whole ++ fraction) * 10 ^ scale
  pub any : some ≡ false → 0 < length whole

pointed : (cs : List ℕ) → 0 < length cs → after_point cs ≡ 46 ∷ cs
pointed [] h = absurd (omega arith)
pointed (c ∷ cs) h = refl

both_true : (a b : Bool) → (a && b) ≡ true → (a ≡ true) × (b ≡ true)
both_true true b h = (refl, h)
both_true false b h = cc

number_is : (limit v m scale : ℕ) (some : Bool) (ws : List ℕ) → whole_from limit scale some v ws ≡ Some m → IsNumber v m scale some ws
number_is limit v m scale true [] h = record { whole = []; fraction = []; text = refl; digits = tt; worth = mul-one m ∙ scaled_is limit scale v m h; any = λ e. cc }
number_is limit v m scale false [] h = absurd (no_choice m h)
number_is limit v m scale some (c ∷ cs) h =
    elim (chosen (is_ascii_digit c) _ _ m h) [
      | inl (digit, e) ↦ elim (chosen (nat_lt (v * 10 + (c - 48)) limit) _ _ m e) [
        | inl (_, e1) ↦
            let rest = number_is limit (v * 10 + (c - 48)) m scale true cs e1 in
            record {
              whole = c ∷ rest.whole;
              fraction = rest.fraction;
              text = ap (λ (l : List ℕ). c ∷ l) rest.text;
              digits = (digit_small c digit, rest.digits);
              worth = rest.worth ∙ ap (λ (d : ℕ). digits_value_after 10 (v * 10 + d) (rest.whole ++ rest.fraction) * 10 ^ scale) (sym (digit_worth c digit));
              any = λ x. omega arith;
            }
        | inr (_, e1) ↦ absurd (no_choice m e1)
      ]
      | inr (_, e) ↦ elim (chosen (some && c == 46) _ _ m e) [
        | inl (point, e1) ↦
            let parts = both_true some (c == 46) point in
            let there : c == 46 ≡ true = parts.1 in
            let byte : c ≡ 46 = grind (arith, nat_tests) in
            let rest = fraction_is limit v m scale false cs e1 in
            record {
              whole = [];
              fraction = cs;
              text = ap (λ (x : ℕ). x ∷ cs) byte ∙ sym (pointed cs (rest.any refl));
              digits = rest.digits;
              worth = rest.worth;
              any = λ x. (let s : some ≡ true = parts.0 in cc);
            }
        | inr (_, e1) ↦ absurd (no_choice m e1)
      ]
    ]

mapped : (f : ℕ → ℤ) (o : Option ℕ) (z : ℤ) → option_map f o ≡ Some z → (m : ℕ) × (o ≡ Some m) × (z ≡ f m)
mapped f None z h = absurd (let k : None ≡ Some z = h in cc)
mapped f (Some m) z h = (m, refl, (let k : f m ≡ z = cc in sym k))

chosen_z : (b : Bool) (x y : Option ℤ) (m : ℤ) → (if b then x else y) ≡ Some m → ((b ≡ true) × (x ≡ Some m)) ⊎ ((b ≡ false) × (y ≡ Some m))
chosen_z true x y m h = inl (refl, h)
chosen_z false x y m h = inr (refl, h)

behind : (word : List ℕ) → get_or word 0 0 ≡ 45 → word ≡ 45 ∷ drop 1 word
behind [] h = absurd (omega arith)
behind (c ∷ cs) h = ap (λ (x : ℕ). x ∷ cs) h

pub exact : (limit scale : ℕ) (word : List ℕ) (z : ℤ) → decimal_value limit scale word ≡ Some z → IsWorth scale word z
exact limit scale word z h =
    elim (chosen_z (get_or word 0 0 == 45) _ _ z h) [
      | inl (minus, e) ↦
          let byte : get_or word 0 0 ≡ 45 = grind (arith, nat_tests) in
          let found = mapped (λ n. neg_ℤ (pos n)) (whole_from limit scale false 0 (drop 1 word)) z e in
          let n = number_is limit 0 found.0 scale false (drop 1 word) found.1 in
          record { negative = true; whole = n.whole; fraction = n.fraction; text = behind word byte ∙ ap (λ (l : List ℕ). 45 ∷ l) n.text; digits = n.digits; some = n.any refl; size = found.0; signed = found.2; worth = n.worth }
      | inr (_, e) ↦
          let found = mapped pos (whole_from limit scale false 0 word) z e in
          let n = number_is limit 0 found.0 scale false word found.1 in
          record { negative = false; whole = n.whole; fraction = n.fraction; text = n.text; digits = n.digits; some = n.any refl; size = found.0; signed = found.2; worth = n.worth }
    ]

-- the same of a number in at most 38 digits
pub number_exact : (scale : ℕ) (word : List ℕ) (z : ℤ) → number_at scale word ≡ Some z → IsWorth scale word z
number_exact scale word z h =
    elim (chosen_z (nat_lt 38 scale) _ _ z h) [
      | inl (_, e) ↦ absurd (let k : None ≡ Some z = e in cc)
      | inr (_, e) ↦ exact (10 ^ 38) scale word z e
    ]
