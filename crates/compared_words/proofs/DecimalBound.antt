-- A decimal that is read is below the limit.
use Rattle.std.proofs.Common.{◌≡◌, ◌<◌, ◌==◌, ◌&&◌, ◌+◌, ◌-◌, ◌*◌, ◌^◌, ℕ, zero, suc, ℤ, pos, neg_ℤ, Bool, true, false, List, [], ◌∷◌, Option, Some, None, arith, drop, nat_lt, refl, sym, ap, ◌∙◌, slice_index, unsigned_abs, if◌then◌else◌}
use Rattle.std.proofs.lemmas.Bool.Decides.{nat_tests}
use Rattle.std.specs.Char.{is_ascii_digit}
use Rattle.std.specs.Option.{option_map}
use Rattle.logical_types.specs.Decimals.{decimal_value, fraction_from, scaled, whole_from}

-- each of two ways gives a number below the limit
abbrev Bounded : ℕ → Option ℕ → Type 0
Bounded limit None = Unit {0}
Bounded limit (Some n) = n < limit

both : (limit : ℕ) (b : Bool) (x y : Option ℕ) → (b ≡ true → Bounded limit x) → Bounded limit y → Bounded limit (if b then x else y)
both limit true x y p q = p refl
both limit false x y p q = q

scaled_below : (limit places value : ℕ) → Bounded limit (scaled limit places value)
scaled_below limit places value =
    both limit (nat_lt (value * 10 ^ places) limit) (Some (value * 10 ^ places)) None (λ e. let l : value * 10 ^ places < limit = grind (arith, nat_tests) in l) tt

some_below : (limit places value : ℕ) (some : Bool) → Bounded limit (if some then scaled limit places value else None)
some_below limit places value some = both limit some (scaled limit places value) None (λ e. scaled_below limit places value) tt

fraction_below : (limit places : ℕ) (some : Bool) (value : ℕ) (cs : List ℕ) → Bounded limit (fraction_from limit places some value cs)
fraction_below limit places some value [] = some_below limit places value some
fraction_below limit places some value (c ∷ cs) =
    both limit (is_ascii_digit c) _ None (λ d. both limit (places == 0) _ _
    (λ e. both limit (c == 48) _ None (λ g. fraction_below limit 0 true value cs) tt)
    (both limit (nat_lt (value * 10 + (c - 48)) limit) _ None (λ g. fraction_below limit (places - 1) true (value * 10 + (c - 48)) cs) tt)) tt

whole_below : (limit scale : ℕ) (some : Bool) (value : ℕ) (cs : List ℕ) → Bounded limit (whole_from limit scale some value cs)
whole_below limit scale some value [] = some_below limit scale value some
whole_below limit scale some value (c ∷ cs) =
    both limit (is_ascii_digit c) _ _
    (λ d. both limit (nat_lt (value * 10 + (c - 48)) limit) _ None (λ g. whole_below limit scale true (value * 10 + (c - 48)) cs) tt)
    (both limit (some && c == 46) _ None (λ g. fraction_below limit scale false value cs) tt)

size_neg : (n : ℕ) → unsigned_abs (neg_ℤ (pos n)) ≡ n
size_neg zero = refl
size_neg (suc n) = refl

mapped : (limit : ℕ) (f : ℕ → ℤ) → ((n : ℕ) → unsigned_abs (f n) ≡ n) → (o : Option ℕ) (z : ℤ) → Bounded limit o → option_map f o ≡ Some z → unsigned_abs z < limit
mapped limit f size None z b e = absurd cc
mapped limit f size (Some n) z b e =
    let same : f n ≡ z = cc in
    let s : unsigned_abs z ≡ n = ap unsigned_abs (sym same) ∙ size n in
    omega (arith, s, b)

pub below_limit : (limit scale : ℕ) (word : List ℕ) (z : ℤ) → decimal_value limit scale word ≡ Some z → unsigned_abs z < limit
below_limit limit scale word z e = by_sign (slice_index word 0 == 45) refl
  where
    by_sign : (b : Bool) → (slice_index word 0 == 45) ≡ b → unsigned_abs z < limit
    by_sign true s = mapped limit (λ n. neg_ℤ (pos n)) size_neg (whole_from limit scale false 0 (drop 1 word)) z (whole_below limit scale false 0 (drop 1 word)) (rw s at e)
    by_sign false s = mapped limit pos (λ n. refl) (whole_from limit scale false 0 word) z (whole_below limit scale false 0 word) (rw s at e)
