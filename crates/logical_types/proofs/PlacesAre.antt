-- The place of a number, by its factor of a unit and what is left, as a function of them.
use Rattle.std.proofs.Common.{◌≡◌, ◌+◌, ◌-◌, ◌^◌, ◌<◌, ◌≤◌, ◌==◌, ◌&&◌, ℕ, ℤ, Option, Some, option_map, unsigned_abs, pos, neg_ℤ, Bool, true, false, not, cond, nat_lt, refl, sym, ap, arith}
use Rattle.std.proofs.lemmas.Bool.Decides.{nat_tests}
use Rattle.logical_types.specs.Decimals.{decimal_text}
use Rattle.logical_types.specs.Places.{fine_scale, number_at}
use Rattle.logical_types.specs.Shapes.{at_value_or, place_at, place_below_zero, place_from_zero, place_in}
use Rattle.logical_types.specs.declared.decimals.places.DecimalPlace.{DecimalPlace}
use Rattle.logical_types.specs.declared.decimals.places.DecimalPlace.TheVariants.{At, Behind, BelowAll, AboveAll}
use Rattle.logical_types.proofs.DecimalsBack.{read_back}

is_zero : (r : ℕ) → r ≡ 0 → (r == 0) ≡ true
is_zero r e = grind (arith, nat_tests)

not_zero : (r : ℕ) → 0 < r → (r == 0) ≡ false
not_zero r e = grind (arith, nat_tests)

is_below : (a b : ℕ) → a < b → nat_lt a b ≡ true
is_below a b h = grind (arith, nat_tests)

not_below : (a b : ℕ) → b ≤ a → nat_lt a b ≡ false
not_below a b h = grind (arith, nat_tests)

-- the three ways, by what the tests say
by_tests : (limit f r : ℕ) (exact between none : DecimalPlace) (zero low lower : Bool) → (r == 0) ≡ zero → nat_lt f limit ≡ low → nat_lt f (limit - 1) ≡ lower
    → cond ((r == 0) && nat_lt f limit) exact (cond (not (r == 0) && nat_lt f (limit - 1)) between none) ≡ cond (zero && low) exact (cond (not zero && lower) between none)
by_tests limit f r exact between none zero low lower a b c = rw (a, b, c)

module _ (limit f r : ℕ) (exact between none : DecimalPlace) where
  abbrev chosen : DecimalPlace
  chosen = cond ((r == 0) && nat_lt f limit) exact (cond (not (r == 0) && nat_lt f (limit - 1)) between none)

  exact_chosen : r ≡ 0 → f < limit → exact ≡ chosen
  exact_chosen e l = sym (by_tests limit f r exact between none true true (nat_lt f (limit - 1)) (is_zero r e) (is_below f limit l) refl)

  between_chosen : 0 < r → f < limit - 1 → between ≡ chosen
  between_chosen e l = sym (by_tests limit f r exact between none false (nat_lt f limit) true (not_zero r e) refl (is_below f (limit - 1) l))

  none_chosen : (r ≡ 0 → limit ≤ f) → limit - 1 ≤ f → none ≡ chosen
  none_chosen e l = by_rest (r == 0) refl
    where
      by_rest : (b : Bool) → (r == 0) ≡ b → none ≡ chosen
      by_rest true h =
          let z : r ≡ 0 = grind (arith, nat_tests) in
          sym (by_tests limit f r exact between none true false (nat_lt f (limit - 1)) h (not_below f limit (e z)) refl)
      by_rest false h = sym (by_tests limit f r exact between none false (nat_lt f limit) false h refl (not_below f (limit - 1) l))

pub at_is : (limit f r : ℕ) → r ≡ 0 → f < limit → At (pos f) ≡ place_from_zero limit f r
at_is limit f r = exact_chosen limit f r (At (pos f)) (Behind (pos f)) AboveAll

pub behind_is : (limit f r : ℕ) → 0 < r → f < limit - 1 → Behind (pos f) ≡ place_from_zero limit f r
behind_is limit f r = between_chosen limit f r (At (pos f)) (Behind (pos f)) AboveAll

pub above_is : (limit f r : ℕ) → (r ≡ 0 → limit ≤ f) → limit - 1 ≤ f → AboveAll ≡ place_from_zero limit f r
above_is limit f r = none_chosen limit f r (At (pos f)) (Behind (pos f)) AboveAll

pub at_below_is : (limit f r : ℕ) → r ≡ 0 → f < limit → At (neg_ℤ (pos f)) ≡ place_below_zero limit f r
at_below_is limit f r = exact_chosen limit f r (At (neg_ℤ (pos f))) (Behind (neg_ℤ (pos (f + 1)))) BelowAll

pub behind_below_is : (limit f r : ℕ) → 0 < r → f < limit - 1 → Behind (neg_ℤ (pos (f + 1))) ≡ place_below_zero limit f r
behind_below_is limit f r = between_chosen limit f r (At (neg_ℤ (pos f))) (Behind (neg_ℤ (pos (f + 1)))) BelowAll

pub below_is : (limit f r : ℕ) → (r ≡ 0 → limit ≤ f) → limit - 1 ≤ f → BelowAll ≡ place_below_zero limit f r
below_is limit f r = none_chosen limit f r (At (neg_ℤ (pos f))) (Behind (neg_ℤ (pos (f + 1)))) BelowAll

-- what is printed of an integer lies at it
pub integer_there : (z : ℤ) → unsigned_abs z < 10 ^ 38 → place_in 38 0 (decimal_text 0 z) ≡ Some (At z)
unfolding place_in
integer_there z h =
    let w : unsigned_abs z < 10 ^ 64 = omega (arith, h) in
    ap (λ (o : Option ℤ). at_value_or o (option_map (place_at (10 ^ 38) (10 ^ (fine_scale 0 (decimal_text 0 z) - 0))) (number_at (fine_scale 0 (decimal_text 0 z)) (decimal_text 0 z)))) (read_back (10 ^ 38) 0 z h w)
