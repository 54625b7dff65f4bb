-- A filter with a hash more, and the union of two: what may be contained.
use Rattle.std.proofs.Common.{◌≡◌, ℕ, zero, suc, ◌+◌, ◌*◌, ◌/◌, ◌%◌, ◌<◌, ◌≤◌, List, [], ◌∷◌, length, get_or, slice_index, drop, refl, sym, ap, subst, ◌∙◌, arith, true, false, Bool, ◌==◌, ◌^◌, ◌&&◌, ◌||◌, replicate}
use Rattle.std.specs.Int.{bit_at}
use Rattle.std.specs.Int.Bits.{bit_or}
use Rattle.std.specs.List.{fold, list_all, list_any}
use Rattle.std.specs.Simd.Lanes.{zip2}
use Rattle.std.proofs.lemmas.Bool.{and_from, and_left, and_parts}
use Rattle.std.proofs.lemmas.Grind.{same_number_lists}
use Rattle.std.proofs.lemmas.Simd.{length-zip2}
use native.Mathlib.Nat.{mul-lt-mul_of_pos_right}
use Rattle.std.proofs.lemmas.Nat.{mul-le}
use Rattle.std.proofs.lemmas.Nat.Bits.{bit_at-zero}
use Rattle.membership.specs.BloomFilters.{IsFilterLength, bit_in_word, block_of, empty_filter, is_set, max_blocks, may_contain, place, places, salts, union, with_bit, with_hash}
use Rattle.membership.specs.Laws.{SetsBits}
use Rattle.membership.proofs.Bits.{length-with_bit, or-false, or-left, or-right, or_assoc, set-exactly, set-kept, set-same}

-- ---- where the bits of a hash are
pub product-fits : (h count : ℕ) → h < 2 ^ 32 → count ≤ max_blocks → h * count < 2 ^ 64
product-fits h count small fits = let le : h * count ≤ 4294967296 * 67108863 = mul-le h count 4294967296 67108863 (omega arith) fits in omega arith

block-within : (count hash : ℕ) → 0 < count → hash < 2 ^ 64 → block_of count hash < count
block-within count hash some fits =
    let half : hash / 4294967296 < 4294967296 = omega arith in
    quotient (hash / 4294967296 * count) count (mul-lt-mul_of_pos_right half some)
  where
    quotient : (x n : ℕ) → x < 4294967296 * n → x / 4294967296 < n
    quotient x n l = omega arith

bit-within : (hash salt : ℕ) → bit_in_word hash salt < 32
bit-within hash salt = small (hash % 4294967296 * salt)
  where
    small : (x : ℕ) → x % 4294967296 / 134217728 < 32
    small x = omega arith

pub place-within : (count hash w : ℕ) → 0 < count → hash < 2 ^ 64 → w < 8 → place count hash w < 256 * count
unfolding place
place-within count hash w some fits word =
    inside (block_of count hash) (bit_in_word hash (get_or salts w 0)) count w (block-within count hash some fits) (bit-within hash (get_or salts w 0)) word
  where
    inside : (b k n w : ℕ) → b < n → k < 32 → w < 8 → 256 * b + 32 * w + k < 256 * n
    inside b k n w p q r = omega arith

-- each of these places is below n
abbrev AllBelow : ℕ → List ℕ → Type 0
AllBelow n [] = Unit {0}
AllBelow n (p ∷ ps) = (p < n) × AllBelow n ps

places-within : (count hash : ℕ) → 0 < count → hash < 2 ^ 64 → AllBelow (256 * count) (places count hash)
places-within count hash some fits =
    let at = λ (w : ℕ) (l : w < 8). place-within count hash w some fits l in
    (at 0 (omega arith), (at 1 (omega arith), (at 2 (omega arith), (at 3 (omega arith), (at 4 (omega arith), (at 5 (omega arith), (at 6 (omega arith), (at 7 (omega arith), tt))))))))

bits-of : (n : ℕ) → IsFilterLength n → 256 * (n / 32) ≡ 8 * n
bits-of n f = let whole = f.whole in omega arith

some-block : (n : ℕ) → IsFilterLength n → 0 < n / 32
some-block n f = let some = f.some in omega arith

-- ---- bits set one after another
length-with_bits : (filter ps : List ℕ) → length (fold with_bit filter ps) ≡ length filter
length-with_bits filter [] = refl
length-with_bits filter (p ∷ ps) = length-with_bits (with_bit filter p) ps ∙ length-with_bit filter p

all-kept : (filter ps : List ℕ) (i : ℕ) → AllBelow (8 * length filter) ps → is_set filter i ≡ true → is_set (fold with_bit filter ps) i ≡ true
all-kept filter [] i within was = was
all-kept filter (p ∷ ps) i within was =
    all-kept (with_bit filter p) ps i (subst (λ n. AllBelow (8 * n) ps) (sym (length-with_bit filter p)) within.1) (set-kept filter p i within.0 was)

all-set : (filter ps : List ℕ) → AllBelow (8 * length filter) ps → list_all (is_set (fold with_bit filter ps)) ps ≡ true
all-set filter [] within = refl
all-set filter (p ∷ ps) within =
    let rest : AllBelow (8 * length (with_bit filter p)) ps = subst (λ n. AllBelow (8 * n) ps) (sym (length-with_bit filter p)) within.1 in
    and_from _ _ (all-kept (with_bit filter p) ps p rest (set-same filter p within.0)) (all-set (with_bit filter p) ps rest)

all-still : (p q : ℕ → Bool) (is : List ℕ) → ((i : ℕ) → p i ≡ true → q i ≡ true) → list_all p is ≡ true → list_all q is ≡ true
all-still p q [] still h = refl
all-still p q (i ∷ is) still h =
    let parts : (p i ≡ true) × (list_all p is ≡ true) = and_parts (p i) (list_all p is) h in
    and_from (q i) (list_all q is) (still i parts.0) (all-still p q is still parts.1)

-- ---- a hash more
hash-within : (filter : List ℕ) (hash : ℕ) → IsFilterLength (length filter) → hash < 2 ^ 64 → AllBelow (8 * length filter) (places (length filter / 32) hash)
hash-within filter hash f fits = subst (λ n. AllBelow n (places (length filter / 32) hash)) (bits-of (length filter) f) (places-within (length filter / 32) hash (some-block (length filter) f) fits)

pub length-with_hash : (filter : List ℕ) (hash : ℕ) → length (with_hash filter hash) ≡ length filter
unfolding with_hash
length-with_hash filter hash = length-with_bits filter (places (length filter / 32) hash)

pub inserted : (filter : List ℕ) (hash : ℕ) → IsFilterLength (length filter) → hash < 2 ^ 64 → may_contain (with_hash filter hash) hash ≡ true
unfolding with_hash may_contain
inserted filter hash f fits =
    ap (λ n. list_all (is_set (fold with_bit filter (places (length filter / 32) hash))) (places (n / 32) hash)) (length-with_bits filter (places (length filter / 32) hash))
    ∙ all-set filter (places (length filter / 32) hash) (hash-within filter hash f fits)

pub kept : (filter : List ℕ) (hash other : ℕ) → IsFilterLength (length filter) → hash < 2 ^ 64 → may_contain filter other ≡ true → may_contain (with_hash filter hash) other ≡ true
unfolding with_hash may_contain
kept filter hash other f fits was =
    ap (λ n. list_all (is_set (fold with_bit filter (places (length filter / 32) hash))) (places (n / 32) other)) (length-with_bits filter (places (length filter / 32) hash))
    ∙ all-still (is_set filter) (is_set (fold with_bit filter (places (length filter / 32) hash))) (places (length filter / 32) other)
    (λ i h. all-kept filter (places (length filter / 32) hash) i (hash-within filter hash f fits) h) was

bits-added : (filter ps : List ℕ) (i : ℕ) → AllBelow (8 * length filter) ps → is_set (fold with_bit filter ps) i ≡ (is_set filter i || list_any (λ p. p == i) ps)
bits-added filter [] i within = or-false (is_set filter i)
bits-added filter (p ∷ ps) i within =
    bits-added (with_bit filter p) ps i (subst (λ n. AllBelow (8 * n) ps) (sym (length-with_bit filter p)) within.1)
    ∙ ap (λ b. b || list_any (λ q. q == i) ps) (set-exactly filter p i within.0)
    ∙ or_assoc (is_set filter i) (p == i) (list_any (λ q. q == i) ps)

pub sets_bits : SetsBits
unfolding with_hash
sets_bits filter hash i f fits = bits-added filter (places (length filter / 32) hash) i (hash-within filter hash f fits)

-- ---- a union
get_or-zip2 : (xs ys : List ℕ) (k : ℕ) → length xs ≡ length ys → get_or (zip2 bit_or xs ys) k 0 ≡ bit_or (get_or xs k 0) (get_or ys k 0)
get_or-zip2 [] [] k e = refl
get_or-zip2 [] (y ∷ ys) k e = absurd (omega arith)
get_or-zip2 (x ∷ xs) [] k e = absurd (omega arith)
get_or-zip2 (x ∷ xs) (y ∷ ys) zero e = refl
get_or-zip2 (x ∷ xs) (y ∷ ys) (suc k) e = let e' : length xs ≡ length ys = omega arith in get_or-zip2 xs ys k e'

pub union-from : (now filter other : List ℕ) → length now ≡ length filter → length filter ≡ length other
    → ((k : ℕ) → k < length filter → get_or now k 0 ≡ bit_or (get_or filter k 0) (get_or other k 0)) → now ≡ union filter other
unfolding union
union-from now filter other e e' at =
    same_number_lists now (zip2 bit_or filter other) (e ∙ sym (length-zip2 bit_or filter other e'))
    (λ k l. at k (omega arith) ∙ sym (get_or-zip2 filter other k e'))

pub length-union : (filter other : List ℕ) → length filter ≡ length other → length (union filter other) ≡ length filter
unfolding union
length-union filter other e = length-zip2 bit_or filter other e

pub union-left : (filter other : List ℕ) (hash : ℕ) → length filter ≡ length other → may_contain filter hash ≡ true → may_contain (union filter other) hash ≡ true
unfolding may_contain union
union-left filter other hash e was =
    ap (λ n. list_all (is_set (zip2 bit_or filter other)) (places (n / 32) hash)) (length-zip2 bit_or filter other e)
    ∙ all-still (is_set filter) (is_set (zip2 bit_or filter other)) (places (length filter / 32) hash)
    (λ i h. ap (λ x. bit_at x (i % 8) == 1) (get_or-zip2 filter other (i / 8) e) ∙ or-left (get_or filter (i / 8) 0) (get_or other (i / 8) 0) (i % 8) h) was

pub union-right : (filter other : List ℕ) (hash : ℕ) → length filter ≡ length other → may_contain other hash ≡ true → may_contain (union filter other) hash ≡ true
unfolding may_contain union
union-right filter other hash e was =
    ap (λ n. list_all (is_set (zip2 bit_or filter other)) (places (n / 32) hash)) (length-zip2 bit_or filter other e ∙ e)
    ∙ all-still (is_set other) (is_set (zip2 bit_or filter other)) (places (length other / 32) hash)
    (λ i h. ap (λ x. bit_at x (i % 8) == 1) (get_or-zip2 filter other (i / 8) e) ∙ or-right (get_or filter (i / 8) 0) (get_or other (i / 8) 0) (i % 8) h) was

-- ---- a loop over the words of a block
pub next-bit : (filter r : List ℕ) (count hash w : ℕ) → w < 8 → fold with_bit filter (drop w (places count hash)) ≡ r → fold with_bit (with_bit filter (place count hash w)) (drop (w + 1) (places count hash)) ≡ r
next-bit filter r count hash zero l h = h
next-bit filter r count hash (suc zero) l h = h
next-bit filter r count hash (suc (suc zero)) l h = h
next-bit filter r count hash (suc (suc (suc zero))) l h = h
next-bit filter r count hash (suc (suc (suc (suc zero)))) l h = h
next-bit filter r count hash (suc (suc (suc (suc (suc zero))))) l h = h
next-bit filter r count hash (suc (suc (suc (suc (suc (suc zero)))))) l h = h
next-bit filter r count hash (suc (suc (suc (suc (suc (suc (suc zero))))))) l h = h
next-bit filter r count hash (suc (suc (suc (suc (suc (suc (suc (suc w)))))))) l h = absurd (omega arith)

next-test : (p : ℕ → Bool) (count hash w : ℕ) → w < 8 → list_all p (drop w (places count hash)) ≡ (p (place count hash w) && list_all p (drop (w + 1) (places count hash)))
next-test p count hash zero l = refl
next-test p count hash (suc zero) l = refl
next-test p count hash (suc (suc zero)) l = refl
next-test p count hash (suc (suc (suc zero))) l = refl
next-test p count hash (suc (suc (suc (suc zero)))) l = refl
next-test p count hash (suc (suc (suc (suc (suc zero))))) l = refl
next-test p count hash (suc (suc (suc (suc (suc (suc zero)))))) l = refl
next-test p count hash (suc (suc (suc (suc (suc (suc (suc zero))))))) l = refl
next-test p count hash (suc (suc (suc (suc (suc (suc (suc (suc w)))))))) l = absurd (omega arith)

pub test-passed : (p : ℕ → Bool) (count hash w : ℕ) (r : Bool) → w < 8 → p (place count hash w) ≡ true → list_all p (drop w (places count hash)) ≡ r → list_all p (drop (w + 1) (places count hash)) ≡ r
test-passed p count hash w r l h e = sym (next-test p count hash w l ∙ ap (λ b. b && list_all p (drop (w + 1) (places count hash))) h) ∙ e

pub test-failed : (p : ℕ → Bool) (count hash w : ℕ) (r : Bool) → w < 8 → p (place count hash w) ≡ false → list_all p (drop w (places count hash)) ≡ r → false ≡ r
test-failed p count hash w r l h e = sym (next-test p count hash w l ∙ and_left (p (place count hash w)) (list_all p (drop (w + 1) (places count hash))) h) ∙ e

-- ---- a filter without a bit
get_or-zeros : (n k : ℕ) → slice_index (replicate n 0) k ≡ 0
get_or-zeros zero k = refl
get_or-zeros (suc n) zero = refl
get_or-zeros (suc n) (suc k) = get_or-zeros n k

pub contains-nothing : (blocks hash : ℕ) → may_contain (empty_filter blocks) hash ≡ false
unfolding may_contain
contains-nothing blocks hash =
    let n = length (empty_filter blocks) / 32 in
    and_left (is_set (empty_filter blocks) (place n hash 0)) (list_all (is_set (empty_filter blocks)) (drop 1 (places n hash)))
    (ap (λ x. bit_at x (place n hash 0 % 8) == 1) (get_or-zeros (32 * blocks) (place n hash 0 / 8)) ∙ ap (λ x. x == 1) (bit_at-zero (place n hash 0 % 8)))
