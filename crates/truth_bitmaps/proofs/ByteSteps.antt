-- Words that are gathered from bytes, and bytes that are written from words.
use Rattle.std.proofs.Common.{◌≡◌, ◌∙◌, ℕ, ◌+◌, ◌-◌, ◌*◌, ◌/◌, ◌%◌, ◌^◌, ◌==◌, ◌<◌, ◌≤◌, ◌≢◌, ◌⊎◌, inl, inr, Bool, true, false, ◌&&◌, ◌||◌, List, length, drop, ap, arith, refl, sym, slice_index, slice_index_or, slice_set, zero, suc}
use Rattle.std.specs.Int.Bits.{bit_and, bit_or}
use Rattle.std.proofs.lemmas.Nat.Bits.{bit_at_above, bit_at_ones}
use Rattle.std.proofs.lemmas.List.{drop-set-lt, get_or-set_other, get_or-set_same, length-set}
use Rattle.std.proofs.lemmas.Nat.{pow_pos}
use Rattle.truth_bitmaps.specs.Truths.{AreMatches, bit_in, byte_count, is_match, is_set, no_row, truth_of}
use Rattle.truth_bitmaps.specs.declared.words.TruthWord.{TruthWord}
use Rattle.truth_bitmaps.proofs.BitSteps.{low-bits, set-and, set-or, shl-above, shl-below, shr-set}

-- the word has so many bits of bytes from a place on, and no other
pub record Gathered (bytes : List ℕ) (place count word : ℕ) : Type 0 where
  pub done : (bit : ℕ) → bit < count → is_set word bit ≡ bit_in bytes (8 * place + bit)
  pub rest : (bit : ℕ) → count ≤ bit → bit < 64 → is_set word bit ≡ false

-- the bit of a byte, by its place among all bits
bit-of-byte : (bytes : List ℕ) (place k bit : ℕ) → 8 * k ≤ bit → bit < 8 * (k + 1) → bit_in bytes (8 * place + bit) ≡ is_set (slice_index bytes (place + k)) (bit - 8 * k)
bit-of-byte bytes place k bit from end =
    let q : (8 * place + bit) / 8 ≡ place + k = omega arith in
    let m : (8 * place + bit) % 8 ≡ bit - 8 * k = omega arith in
    ap (λ j. is_set (slice_index bytes j) ((8 * place + bit) % 8)) q ∙ ap (λ i. is_set (slice_index bytes (place + k)) i) m

pub or-false : (b c : Bool) → c ≡ false → (b || c) ≡ b
or-false b c e = grind (arith, e)

pub false-or : (b c : Bool) → b ≡ false → (b || c) ≡ c
false-or b c e = grind (arith, e)

-- one byte more
pub one-byte : (bytes : List ℕ) (place k word byte : ℕ) → k < 8 → Gathered bytes place (8 * k) word → byte ≡ slice_index bytes (place + k) → byte < 2 ^ 8
    → Gathered bytes place (8 * (k + 1)) (bit_or word (byte * 2 ^ (8 * k) % 2 ^ 64))
one-byte bytes place k word byte small so_far is fits = record {
  done = λ bit below. set-or word (byte * 2 ^ (8 * k) % 2 ^ 64) bit ∙ elim (part bit) [
    | inl l ↦ or-false _ _ (shl-below byte (8 * k) bit l (omega arith)) ∙ so_far.done bit l
    | inr g ↦ false-or _ _ (so_far.rest bit g (omega arith)) ∙ shl-above byte (8 * k) bit g (omega arith) ∙ ap (λ n. is_set n (bit - 8 * k)) is ∙ sym (bit-of-byte bytes place k bit g below)
  ];
  rest = λ bit above last. set-or word (byte * 2 ^ (8 * k) % 2 ^ 64) bit ∙ false-or _ _ (so_far.rest bit (omega arith) last)
      ∙ shl-above byte (8 * k) bit (omega arith) last ∙ ap (λ n. n == 1) (bit_at_above byte 8 (bit - 8 * k) fits (omega arith));
}
  where
    part : (bit : ℕ) → (bit < 8 * k) ⊎ (8 * k ≤ bit)
    part bit = search (arith)

-- ---- the bits of rows from one on

-- eight bytes that are shifted, and the byte after them
pub two-parts : (bytes : List ℕ) (from low byte : ℕ) → from % 8 ≢ 0 → low < 2 ^ 64 → ((bit : ℕ) → bit < 64 → is_set low bit ≡ bit_in bytes (8 * (from / 8) + bit))
    → byte ≡ slice_index bytes (from / 8 + 8)
    → (row : ℕ) → row < 64 → is_set (bit_or (low / 2 ^ (from % 8)) (byte * 2 ^ (64 - from % 8) % 2 ^ 64)) row ≡ bit_in bytes (from + row)
two-parts bytes from low byte some fits bits is row small = set-or (low / 2 ^ (from % 8)) (byte * 2 ^ (64 - from % 8) % 2 ^ 64) row ∙ elim part [
  | inl l ↦
      let place : 8 * (from / 8) + (from % 8 + row) ≡ from + row = omega arith in
      or-false _ _ (shl-below byte (64 - from % 8) row l small) ∙ shr-set low (from % 8) row ∙ bits (from % 8 + row) (omega arith) ∙ ap (bit_in bytes) place
  | inr g ↦
      let q : from / 8 + 8 ≡ (from + row) / 8 = omega arith in
      let m : row - (64 - from % 8) ≡ (from + row) % 8 = omega arith in
      false-or _ _ (shr-set low (from % 8) row ∙ ap (λ n. n == 1) (bit_at_above low 64 (from % 8 + row) fits (omega arith)))
      ∙ shl-above byte (64 - from % 8) row g small ∙ ap (λ n. is_set n (row - (64 - from % 8))) is
      ∙ ap (λ j. is_set (slice_index bytes j) (row - (64 - from % 8))) q ∙ ap (λ i. is_set (slice_index bytes ((from + row) / 8)) i) m
]
  where
    part : (row < 64 - from % 8) ⊎ (64 - from % 8 ≤ row)
    part = search (arith)

-- ---- the bytes of words

and-true : (b c : Bool) → c ≡ true → (b && c) ≡ b
and-true b c e = grind (arith, e)

-- a byte of a word
pub byte-set : (word place bit : ℕ) → bit < 8 → is_set (bit_and (word / 2 ^ (8 * place)) 255) bit ≡ is_set word (8 * place + bit)
byte-set word place bit small = set-and (word / 2 ^ (8 * place)) 255 bit ∙ and-true _ _ (ap (λ n. n == 1) (bit_at_ones 8 bit small)) ∙ shr-set word (8 * place) bit

small-power : (k : ℕ) → k < 8 → 1 * 2 ^ k % 256 ≡ 2 ^ k
small-power zero l = refl
small-power (suc zero) l = refl
small-power (suc (suc zero)) l = refl
small-power (suc (suc (suc zero))) l = refl
small-power (suc (suc (suc (suc zero)))) l = refl
small-power (suc (suc (suc (suc (suc zero))))) l = refl
small-power (suc (suc (suc (suc (suc (suc zero)))))) l = refl
small-power (suc (suc (suc (suc (suc (suc (suc zero))))))) l = refl
small-power (suc (suc (suc (suc (suc (suc (suc (suc k)))))))) l = absurd (omega arith)

-- the bits below one are those of the remainder
pub low-set : (byte end bit : ℕ) → end < 8 → bit < end → is_set (byte % (1 * 2 ^ end % 256)) bit ≡ is_set byte bit
low-set byte end bit small below = ap (λ n. is_set (byte % n) bit) (small-power end small) ∙ ap (λ n. n == 1) (low-bits byte end bit below)

pub low-rest : (byte end bit : ℕ) → end < 8 → end ≤ bit → is_set (byte % (1 * 2 ^ end % 256)) bit ≡ false
low-rest byte end bit small above =
    let fits : byte % 2 ^ end < 2 ^ end = omega (arith, pow_pos end) in
    ap (λ n. is_set (byte % n) bit) (small-power end small) ∙ ap (λ n. n == 1) (bit_at_above (byte % 2 ^ end) end bit fits above)

-- the bit of True of a row
abbrev pub true-bit : List TruthWord → ℕ → Bool
true-bit words row = is_set (slice_index_or words (row / 64) no_row).is_true (row % 64)

match-bit : (t u : Bool) → t ≡ is_match (truth_of t u)
match-bit true u = refl
match-bit false true = refl
match-bit false false = refl

-- the bytes before this one have the bits of the rows, and the others are as they were
pub record Filled (words : List TruthWord) (before mask : List ℕ) (place : ℕ) : Type 0 where
  pub size : length mask ≡ length before
  pub rows : (row : ℕ) → row < 8 * place → bit_in mask row ≡ true-bit words row
  pub rest : (n : ℕ) → place ≤ n → drop n mask ≡ drop n before

-- the bit of a row of another byte than the one that is written
other-byte : (mask : List ℕ) (place byte row : ℕ) → row / 8 ≢ place → bit_in (slice_set mask place byte) row ≡ bit_in mask row
other-byte mask place byte row ne = ap (λ n. is_set n (row % 8)) (get_or-set_other mask place (row / 8) byte 0 ne)

-- the bit of a row of the byte that is written
this-byte : (mask : List ℕ) (place byte row : ℕ) → row / 8 ≡ place → place < length mask → bit_in (slice_set mask place byte) row ≡ is_set byte (row % 8)
this-byte mask place byte row e within =
    ap (λ j. is_set (slice_index (slice_set mask place byte) j) (row % 8)) e ∙ ap (λ n. is_set n (row % 8)) (get_or-set_same mask place byte 0 within)

-- a bit of the byte of a row
bit-of-row : (words : List TruthWord) (place byte row : ℕ) → row / 8 ≡ place
    → ((bit : ℕ) → bit < 8 → is_set byte bit ≡ is_set (slice_index_or words (place / 8) no_row).is_true (8 * (place % 8) + bit))
    → is_set byte (row % 8) ≡ true-bit words row
bit-of-row words place byte row e bits =
    let q : place / 8 ≡ row / 64 = omega arith in
    let m : 8 * (place % 8) + row % 8 ≡ row % 64 = omega arith in
    bits (row % 8) (omega arith)
    ∙ ap (λ j. is_set (slice_index_or words j no_row).is_true (8 * (place % 8) + row % 8)) q
    ∙ ap (λ i. is_set (slice_index_or words (row / 64) no_row).is_true i) m

-- one byte more
pub byte-filled : (words : List TruthWord) (before mask : List ℕ) (place byte : ℕ) → Filled words before mask place → place < length mask
    → ((bit : ℕ) → bit < 8 → is_set byte bit ≡ is_set (slice_index_or words (place / 8) no_row).is_true (8 * (place % 8) + bit))
    → Filled words before (slice_set mask place byte) (place + 1)
byte-filled words before mask place byte so_far within bits = record {
  size = length-set mask place byte ∙ so_far.size;
  rows = λ row below. elim (part row below) [
    | inl l ↦ other-byte mask place byte row (λ e. omega arith) ∙ so_far.rows row l
    | inr e ↦ this-byte mask place byte row e within ∙ bit-of-row words place byte row e bits
  ];
  rest = λ n above. drop-set-lt n mask place byte (omega arith) ∙ so_far.rest n (omega arith);
}
  where
    part : (row : ℕ) → row < 8 * (place + 1) → (row < 8 * place) ⊎ (row / 8 ≡ place)
    part row below = search (arith)

-- whole bytes
pub whole-bytes : (words : List TruthWord) (before mask : List ℕ) (count : ℕ) → Filled words before mask (count / 8) → count % 8 ≡ 0
    → AreMatches words count mask × (drop (byte_count count) mask ≡ drop (byte_count count) before)
whole-bytes words before mask count filled even = (
  record {
    rows = λ row below. filled.rows row (omega arith) ∙ match-bit _ (is_set (slice_index_or words (row / 64) no_row).is_unknown (row % 64));
    zeros = λ row above below. absurd (omega arith);
  },
  filled.rest (byte_count count) (omega arith),
)

-- whole bytes, and the bits below one of the next
pub last-byte : (words : List TruthWord) (before mask : List ℕ) (count byte low : ℕ) → Filled words before mask (count / 8) → count % 8 ≢ 0 → byte_count count ≤ length before
    → ((bit : ℕ) → bit < 8 → is_set byte bit ≡ is_set (slice_index_or words (count / 8 / 8) no_row).is_true (8 * (count / 8 % 8) + bit))
    → ((bit : ℕ) → bit < count % 8 → is_set low bit ≡ is_set byte bit) → ((bit : ℕ) → count % 8 ≤ bit → is_set low bit ≡ false)
    → AreMatches words count (slice_set mask (count / 8) low) × (drop (byte_count count) (slice_set mask (count / 8) low) ≡ drop (byte_count count) before)
last-byte words before mask count byte low filled some room bits below-end above-end = (
  record {
    rows = λ row below. (elim (part row below) [
      | inl l ↦ other-byte mask (count / 8) low row (λ e. omega arith) ∙ filled.rows row l
      | inr e ↦ this-byte mask (count / 8) low row e within ∙ below-end (row % 8) (omega arith) ∙ bit-of-row words (count / 8) byte row e bits
    ]) ∙ match-bit _ (is_set (slice_index_or words (row / 64) no_row).is_unknown (row % 64));
    zeros = λ row above below. this-byte mask (count / 8) low row (omega arith) within ∙ above-end (row % 8) (omega arith);
  },
  drop-set-lt (byte_count count) mask (count / 8) low (omega arith) ∙ filled.rest (byte_count count) (omega arith),
)
  where
    within : count / 8 < length mask
    within = omega (arith, filled.size)

    part : (row : ℕ) → row < count → (row < 8 * (count / 8)) ⊎ (row / 8 ≡ count / 8)
    part row below = search (arith)
