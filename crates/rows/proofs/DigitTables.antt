-- A table of the values of hexadecimal digits.
use Rattle.std.proofs.Common.{◌≡◌, ℕ, zero, suc, ◌<◌, ◌≤◌, ◌==◌, Bool, true, ◌&&◌, List, get_or, unwrap_or, sym, subst, arith, inl, inr}
use Rattle.std.proofs.lemmas.Bool.{and_parts, cases_eq, eqb-true}
use Rattle.hex.specs.Hex.{hex_digit_value}

-- the table has the values of the bytes below n, and 256 for a byte that is no digit
unfoldable pub agrees_below : List ℕ → ℕ → Bool
agrees_below table zero = true
agrees_below table (suc n) = get_or table n 0 == unwrap_or (hex_digit_value n) 256 && agrees_below table n

-- what a table that agrees has at a byte
pub values_agree : (table : List ℕ) (b n : ℕ) → agrees_below table n ≡ true → b < n → get_or table b 0 ≡ unwrap_or (hex_digit_value b) 256
unfolding agrees_below
values_agree table b zero h below = absurd (omega arith)
values_agree table b (suc n) h below =
    let parts = and_parts _ _ h in
    elim (cases_eq b n) [ inl same ↦ rw same (eqb-true _ _ parts.0) | inr other ↦ values_agree table b n parts.1 (omega arith) ]

-- a digit's value is below 16
digit_small : (b : ℕ) → unwrap_or (hex_digit_value b) 256 ≤ 256
digit_small b = grind (arith)

-- no value is above 256
pub value_small : (table : List ℕ) (b n : ℕ) → agrees_below table n ≡ true → b < n → get_or table b 0 ≤ 256
value_small table b n h below = subst (λ (v : ℕ). v ≤ 256) (sym (values_agree table b n h below)) (digit_small b)
