-- A hash is looked up in one block of a filter.
use Rattle.std.proofs.Common.{◌≡◌, ℕ, ◌+◌, ◌*◌, ◌/◌, ◌%◌, ◌<◌, ◌^◌, ◌&&◌, ◌==◌, List, [], ◌∷◌, length, get_or, map, drop, refl, sym, ap, ap₂, ◌∙◌, arith, length-drop}
use Rattle.std.specs.Int.{bit_at}
use Rattle.std.specs.List.{list_all}
use Rattle.std.proofs.lemmas.List.{get_or-drop, get_or-take, length-take}
use native.Mathlib.Nat.{mul-lt-mul_of_pos_right}
use Rattle.membership.specs.BloomFilters.{bit_in_word, block_of, is_set, may_contain, place, places, salts}
use Rattle.membership.proofs.Contained.{place-within}
use Rattle.zone_members.specs.Pieces.{block_at}

pub block-long : (filter : List ℕ) (b blocks : ℕ) → length filter ≡ 32 * blocks → b < blocks → length (block_at filter b) ≡ 32
block-long filter b blocks long h = omega (arith, length-take {A = ℕ}, length-drop {A = ℕ})

block_bit : (filter : List ℕ) (b i : ℕ) → i < 256 → is_set (block_at filter b) i ≡ is_set filter (256 * b + i)
block_bit filter b i small =
    let byte : i / 8 < 32 = omega arith in
    let place' : 32 * b + i / 8 ≡ (256 * b + i) / 8 = omega arith in
    let bit : i % 8 ≡ (256 * b + i) % 8 = omega arith in
    let at : get_or (block_at filter b) (i / 8) 0 ≡ get_or filter ((256 * b + i) / 8) 0 =
    get_or-take 32 (drop (32 * b) filter) (i / 8) 0 byte ∙ get_or-drop (32 * b) filter (i / 8) 0 ∙ ap (λ k. get_or filter k 0) place' in
    ap₂ (λ x k. bit_at x k == 1) at bit

only_block : (hash : ℕ) → hash < 2 ^ 64 → block_of 1 hash ≡ 0
only_block hash fits = omega arith

-- the place of a word's bit, in a filter of one block and in one of many
same_place : (count hash w : ℕ) → hash < 2 ^ 64 → place count hash w ≡ 256 * block_of count hash + place 1 hash w
unfolding place
same_place count hash w fits =
    let none = only_block hash fits in
    sums (block_of count hash) (block_of 1 hash) (32 * w) (bit_in_word hash (get_or salts w 0)) none
  where
    sums : (b c x k : ℕ) → c ≡ 0 → 256 * b + x + k ≡ 256 * b + (256 * c + x + k)
    sums b c x k e = omega arith

-- each of these is the number of a word
AreWords : List ℕ → Type 0
AreWords [] = Unit {0}
AreWords (w ∷ ws) = (w < 8) × AreWords ws

same_bits : (filter : List ℕ) (count hash : ℕ) → hash < 2 ^ 64 → (ws : List ℕ) → AreWords ws
    → list_all (is_set (block_at filter (block_of count hash))) (map (place 1 hash) ws) ≡ list_all (is_set filter) (map (place count hash) ws)
unfolding AreWords
same_bits filter count hash fits [] words = refl
same_bits filter count hash fits (w ∷ ws) words =
    let some : 0 < 1 = omega arith in
    let small : place 1 hash w < 256 = place-within 1 hash w some fits words.0 in
    ap₂ (λ a b. a && b)
    (block_bit filter (block_of count hash) (place 1 hash w) small ∙ ap (is_set filter) (sym (same_place count hash w fits)))
    (same_bits filter count hash fits ws words.1)

eight_words : AreWords (0 ∷ 1 ∷ 2 ∷ 3 ∷ 4 ∷ 5 ∷ 6 ∷ 7 ∷ [])
unfolding AreWords
eight_words = (omega arith, (omega arith, (omega arith, (omega arith, (omega arith, (omega arith, (omega arith, (omega arith, tt))))))))

-- what one block says, if the filter has so many
pub by_block : (filter : List ℕ) (count hash : ℕ) → hash < 2 ^ 64 → length filter / 32 ≡ count → length (block_at filter (block_of count hash)) / 32 ≡ 1
    → may_contain (block_at filter (block_of count hash)) hash ≡ may_contain filter hash
unfolding may_contain
by_block filter count hash fits many one =
    ap (λ n. list_all (is_set (block_at filter (block_of count hash))) (places n hash)) one
    ∙ same_bits filter count hash fits (0 ∷ 1 ∷ 2 ∷ 3 ∷ 4 ∷ 5 ∷ 6 ∷ 7 ∷ []) eight_words
    ∙ ap (λ n. list_all (is_set filter) (places n hash)) (sym many)

pub block-within : (count hash : ℕ) → 0 < count → hash < 2 ^ 64 → block_of count hash < count
block-within count hash some fits =
    let half : hash / 4294967296 < 4294967296 = omega arith in
    quotient (hash / 4294967296 * count) count (mul-lt-mul_of_pos_right half some)
  where
    quotient : (x n : ℕ) → x < 4294967296 * n → x / 4294967296 < n
    quotient x n l = omega arith
