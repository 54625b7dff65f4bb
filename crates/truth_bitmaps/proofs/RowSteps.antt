-- Words of a test of each row.
use Rattle.std.proofs.Common.{◌≡◌, ◌∙◌, ℕ, ◌+◌, ◌-◌, ◌*◌, ◌/◌, ◌%◌, ◌^◌, ◌<◌, ◌≤◌, ◌==◌, ◌⊎◌, inl, inr, Bool, true, false, cond, List, Some, length, ap, arith, refl, sym, subst, get_or, map, replicate, slice_index, slice_index_or, slice_set, w8}
use Rattle.std.proofs.lemmas.List.{get_or-map, get_or_past, get_or-set_other, get_or-set_same, length-set}
use Rattle.std.proofs.lemmas.Simd.{bit_mask_l, bitmask_splat, get_or-replicate}
use Rattle.std.specs.Simd.Lanes.{mask_l, top, zip2}
use mir.Val.{bits, hbits}
use Rattle.truth_bitmaps.specs.Truths.{is_set, no_row, truth_at, truth_in}
use Rattle.truth_bitmaps.specs.declared.words.TruthWord.{TruthWord}

-- the bytes of the rows before this one say what the test gives, and the others are 0
pub record Tested (gives : ℕ → Bool → Type 0) (count : ℕ) (tests : List ℕ) : Type 0 where
  pub size : length tests ≡ 64
  pub rows : (row : ℕ) → row < count → gives row (slice_index tests row == 1)
  pub rest : (row : ℕ) → count ≤ row → slice_index tests row ≡ 0

-- no row yet
pub no-test : (gives : ℕ → Bool → Type 0) → Tested gives 0 (replicate 64 0)
no-test gives = record {
  size = refl;
  rows = λ row below. absurd (omega arith);
  rest = λ row above. elim (part row) [ inl l ↦ get_or-replicate 64 row 0 0 l | inr l ↦ get_or_past (replicate 64 0) row 0 l ];
}
  where
    part : (row : ℕ) → (row < 64) ⊎ (64 ≤ row)
    part row = search (arith)

byte-of-bool : (b : Bool) (n : ℕ) → n ≡ cond b 1 0 → (n == 1) ≡ b
byte-of-bool true n e = ap (λ m. m == 1) e
byte-of-bool false n e = ap (λ m. m == 1) e

-- one row more
pub one-test : (gives : ℕ → Bool → Type 0) (row : ℕ) (tests : List ℕ) (b : Bool) (n : ℕ) → row < 64 → n ≡ cond b 1 0 → gives row b → Tested gives row tests
    → Tested gives (row + 1) (slice_set tests row n)
one-test gives row tests b n small is told so_far = record {
  size = length-set tests row n ∙ so_far.size;
  rows = λ r below. elim (part r below) [
    | inl l ↦ subst (λ m. gives r (m == 1)) (sym (get_or-set_other tests row r n 0 (λ e. omega arith))) (so_far.rows r l)
    | inr e ↦ subst (λ i. gives i (slice_index (slice_set tests row n) i == 1)) (sym e) (subst (gives row) (sym here) told)
  ];
  rest = λ r above. get_or-set_other tests row r n 0 (λ e. omega arith) ∙ so_far.rest r (omega arith);
}
  where
    part : (r : ℕ) → r < row + 1 → (r < row) ⊎ (r ≡ row)
    part r below = search (arith)

    within : row < length tests
    within = omega (arith, so_far.size)

    here : (slice_index (slice_set tests row n) row == 1) ≡ b
    here = ap (λ m. m == 1) (get_or-set_same tests row n 0 within) ∙ byte-of-bool b n is

-- a word of the bytes
pub word-of-tests : (gives : ℕ → Bool → Type 0) (count seen word : ℕ) (tests : List ℕ) → count ≤ 64 → count ≤ seen → Tested gives seen tests → ((row : ℕ) → row < 64 → is_set word row ≡ (slice_index tests row == 1))
    → (row : ℕ) → row < count → gives row (is_set word row)
word-of-tests gives count seen word tests small all told is row below = subst (gives row) (sym (is row (omega (arith, small, below)))) (told.rows row (omega (arith, all, below)))

-- the word of the bytes that are 1
bit-told : (b : Bool) → (cond b 1 0 == 1) ≡ b
bit-told true = refl
bit-told false = refl

pub one-of : (bytes : List ℕ) (row : ℕ) → length bytes ≡ 64 → row < 64
    → is_set (mask_l (map (top (hbits w8)) (zip2 (λ a b. cond (a == b) (2 ^ bits w8 - 1) 0) bytes (replicate 64 1))) % 2 ^ 64) row ≡ (slice_index bytes row == 1)
one-of bytes row size small =
    ap (λ m. is_set m row) (bitmask_splat w8 (λ a b. a == b) bytes 64 1 size (omega arith))
    ∙ ap (λ m. m == 1) (bit_mask_l (map (λ a. a == 1) bytes) row)
    ∙ bit-told (get_or (map (λ a. a == 1) bytes) row false)
    ∙ get_or-map (λ a. a == 1) bytes row 0 false (omega (arith, size, small))

-- the words say of so many rows what the test gives
pub record Told (gives : ℕ → Bool → Type 0) (size count : ℕ) (words : List TruthWord) : Type 0 where
  pub size_is : length words ≡ size
  pub rows : (row : ℕ) → row < count → (b : Bool) × gives row b × (truth_at words row ≡ Some b)

-- one word more
pub word-told : (gives : ℕ → Bool → Type 0) (size k m end : ℕ) (words : List TruthWord) (bits : ℕ) (w : TruthWord) → Told gives size (64 * k) words → k < length words → m ≤ 64
    → end ≡ 64 * k + m → ((row : ℕ) → row < m → gives (64 * k + row) (is_set bits row)) → ((row : ℕ) → row < 64 → truth_in w row ≡ Some (is_set bits row))
    → Told gives size end (slice_set words k w)
word-told gives size k m end words bits w so_far within small ends told is = record {
  size_is = length-set words k w ∙ so_far.size_is;
  rows = λ row below. elim (part row below) [
    | inl l ↦ let before = so_far.rows row l in (before.0, before.1, ap (λ v. truth_in v (row % 64)) (get_or-set_other words k (row / 64) w no_row (λ e. omega arith)) ∙ before.2)
    | inr e ↦
        let place : 64 * k + row % 64 ≡ row = omega arith in (
          is_set bits (row % 64),
          subst (λ r. gives r (is_set bits (row % 64))) place (told (row % 64) (omega arith)),
          ap (λ j. truth_in (slice_index_or (slice_set words k w) j no_row) (row % 64)) e ∙ ap (λ v. truth_in v (row % 64)) (get_or-set_same words k w no_row within) ∙ is (row % 64) (omega arith),
        )
  ];
}
  where
    part : (row : ℕ) → row < end → (row < 64 * k) ⊎ (row / 64 ≡ k)
    part row below = search (arith)

-- the last word
pub last-told : (gives : ℕ → Bool → Type 0) (size k whole m end : ℕ) (words : List TruthWord) (bits : ℕ) (w : TruthWord) → k ≡ whole → Told gives size (64 * k) words → whole < length words
    → m ≤ 64 → end ≡ 64 * whole + m → ((row : ℕ) → row < m → gives (64 * whole + row) (is_set bits row)) → ((row : ℕ) → row < 64 → truth_in w row ≡ Some (is_set bits row))
    → (row : ℕ) → row < end → (b : Bool) × gives row b × (truth_at (slice_set words whole w) row ≡ Some b)
last-told gives size k whole m end words bits w e so_far within small ends told is =
    (word-told gives size whole m end words bits w (subst (λ j. Told gives size (64 * j) words) e so_far) within small ends told is).rows
