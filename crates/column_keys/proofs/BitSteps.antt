-- The bits of rows.
use Rattle.std.proofs.Common.{◌≡◌, ◌≢◌, ℕ, ◌+◌, ◌/◌, ◌%◌, ◌<◌, ◌≤◌, ◌⊎◌, inl, inr, List, length, get_or, sym, subst, ap, ◌∙◌, arith, Bool, false, ◌==◌}
use Rattle.std.specs.Int.{bit_at}
use Rattle.std.proofs.lemmas.Bool.{cases_lt}
use Rattle.std.proofs.lemmas.List.{get_or_past}
use Rattle.std.proofs.lemmas.Nat.Bits.{bit_at-zero}
use Rattle.arrow_columns.specs.Bitmaps.{bit_of}
use Rattle.vortex_value.specs.Values.Content.{Content, null}
use Rattle.column_keys.specs.Layout.{AreBits}

-- bytes that are all 0 have no bit
pub zero-bits : (bitmap : List ℕ) → ((k : ℕ) → get_or bitmap k 0 ≡ 0) → (i : ℕ) → bit_of bitmap i ≡ false
zero-bits bitmap all i = ap (λ b. bit_at b (i % 8) == 1) (all (i / 8)) ∙ ap (λ b. b == 1) (bit_at-zero (i % 8))

-- bytes that are 0 as far as there are any
pub zeros-done : (bitmap : List ℕ) (n : ℕ) → length bitmap ≤ n → ((k : ℕ) → k < n → get_or bitmap k 0 ≡ 0) → (i : ℕ) → bit_of bitmap i ≡ false
zeros-done bitmap n size all = zero-bits bitmap (λ k. by_place k (cases_lt k n))
  where
    by_place : (k : ℕ) → (k < n) ⊎ (n ≤ k) → get_or bitmap k 0 ≡ 0
    by_place k (inl l) = all k l
    by_place k (inr g) = get_or_past bitmap k 0 (omega (arith, g, size))

-- ---- the bits of rows

-- the bits of the rows so far say this of their cells, and the others are 0
abbrev pub AreBitsBefore : (Content → Bool) → List Content → ℕ → List ℕ → Type 0
AreBitsBefore of_cell cells row bitmap = ((i : ℕ) → i < row → bit_of bitmap i ≡ of_cell (get_or cells i null)) × ((i : ℕ) → row ≤ i → bit_of bitmap i ≡ false)

pub bits-none : (of_cell : Content → Bool) (cells : List Content) (bitmap : List ℕ) → ((i : ℕ) → bit_of bitmap i ≡ false) → AreBitsBefore of_cell cells 0 bitmap
bits-none of_cell cells bitmap clear = (λ i l. absurd (omega (arith, l)), λ i l. clear i)

pub bits-more : (of_cell : Content → Bool) (cells : List Content) (row : ℕ) (bitmap now : List ℕ) (d : Content) (bit : Bool) → get_or cells row null ≡ d → AreBitsBefore of_cell cells row bitmap → bit ≡ of_cell d
    → bit_of now row ≡ bit → ((i : ℕ) → i ≢ row → bit_of now i ≡ bit_of bitmap i) → AreBitsBefore of_cell cells (row + 1) now
bits-more of_cell cells row bitmap now d bit there all is here others = (λ i l. by_place i (cases_lt i row) l, λ i g. others i (λ e. omega (arith, g, e)) ∙ all.1 i (omega (arith, g)))
  where
    by_place : (i : ℕ) → (i < row) ⊎ (row ≤ i) → i < row + 1 → bit_of now i ≡ of_cell (get_or cells i null)
    by_place i (inl before) l = others i (λ e. omega (arith, before, e)) ∙ all.0 i before
    by_place i (inr after) l =
        let at : row ≡ i = omega (arith, after, l) in
        subst (λ k. bit_of now k ≡ of_cell (get_or cells k null)) at (here ∙ is ∙ ap of_cell (sym there))

pub bits-done : (of_cell : Content → Bool) (cells : List Content) (row : ℕ) (bitmap : List ℕ) → row ≡ length cells → AreBitsBefore of_cell cells row bitmap → AreBits of_cell cells bitmap
bits-done of_cell cells row bitmap at all = record {
  rows = λ k l. all.0 k (omega (arith, l, at));
  zeros = λ k g l. all.1 k (omega (arith, g, at));
}

-- the bit of the next row is still 0, and there is buffer for it
pub bit-clear : (of_cell : Content → Bool) (cells : List Content) (row : ℕ) (bitmap : List ℕ) → AreBitsBefore of_cell cells row bitmap → bit_of bitmap row ≡ false
bit-clear of_cell cells row bitmap all = all.1 row (omega arith)
