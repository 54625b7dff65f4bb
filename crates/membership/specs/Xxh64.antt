-- XXH64 with the seed 0: a hash of 64 bits of a list of bytes.
-- Its words are eight bytes each, the low one first. A stripe is four words, one for each accumulator.
use Rattle.std.specs.Prelude.{ℕ, ◌+◌, ◌-◌, ◌*◌, ◌/◌, ◌%◌, ◌^◌, nat_le, List, [], ◌∷◌, length, drop, fold, bit_xor, slice_index, if◌then◌else◌}
use Rattle.std.specs.Int.{from_le_bytes, rotate_left, w32, w64}
use Rattle.std.specs.Simd.{first_chunks}

-- its five primes
abbrev pub prime1 : ℕ
prime1 = 0x9e3779b185ebca87

abbrev pub prime2 : ℕ
prime2 = 0xc2b2ae3d27d4eb4f

abbrev pub prime3 : ℕ
prime3 = 0x165667b19e3779f9

abbrev pub prime4 : ℕ
prime4 = 0x85ebca77c2b2ae63

abbrev pub prime5 : ℕ
prime5 = 0x27d4eb2f165667c5

-- sums and products wrap
abbrev pub add : ℕ → ℕ → ℕ
add x y = (x + y) % 2 ^ 64

abbrev pub mul : ℕ → ℕ → ℕ
mul x y = x * y % 2 ^ 64

-- an accumulator with one word more
unfoldable pub round : ℕ → ℕ → ℕ
round accumulator word = mul (rotate_left w64 (add accumulator (mul word prime2)) 31) prime1

-- the accumulators before the first stripe
abbrev pub initial : List ℕ
initial = add prime1 prime2 ∷ prime2 ∷ 0 ∷ (2 ^ 64 - prime1) ∷ []

-- the accumulators with one stripe more
unfoldable pub with_stripe : List ℕ → List ℕ → List ℕ → List ℕ → List ℕ → List ℕ
with_stripe v a b c d =
    round (slice_index v 0) (from_le_bytes w64 a) ∷ round (slice_index v 1) (from_le_bytes w64 b)
    ∷ round (slice_index v 2) (from_le_bytes w64 c) ∷ round (slice_index v 3) (from_le_bytes w64 d) ∷ []

-- the accumulators after the whole stripes of these words
unfoldable pub with_stripes : List ℕ → List (List ℕ) → List ℕ
with_stripes v (a ∷ b ∷ c ∷ d ∷ words) = with_stripes (with_stripe v a b c d) words
with_stripes v words = v

-- the words that no whole stripe has
unfoldable pub after_stripes : List (List ℕ) → List (List ℕ)
after_stripes (a ∷ b ∷ c ∷ d ∷ words) = after_stripes words
after_stripes words = words

-- the accumulators as one hash
unfoldable pub merged : ℕ → ℕ → ℕ
merged hash accumulator = add (mul (bit_xor hash (round 0 accumulator)) prime1) prime4

unfoldable pub converged : List ℕ → ℕ
converged v =
    let a = slice_index v 0 in
    let b = slice_index v 1 in
    let c = slice_index v 2 in
    let d = slice_index v 3 in
    let sum = add (add (add (rotate_left w64 a 1) (rotate_left w64 b 7)) (rotate_left w64 c 12)) (rotate_left w64 d 18) in
    merged (merged (merged (merged sum a) b) c) d

-- the hash of the whole stripes
unfoldable pub of_stripes : List (List ℕ) → ℕ
of_stripes words = if nat_le 4 (length words) then converged (with_stripes initial words) else prime5

-- a hash with a word, with a half of one, and with a byte more
unfoldable pub with_word : ℕ → List ℕ → ℕ
with_word hash word = add (mul (rotate_left w64 (bit_xor hash (round 0 (from_le_bytes w64 word))) 27) prime1) prime4

unfoldable pub with_half : ℕ → List ℕ → ℕ
with_half hash half = add (mul (rotate_left w64 (bit_xor hash (mul (from_le_bytes w32 half) prime1)) 23) prime2) prime3

unfoldable pub with_byte : ℕ → ℕ → ℕ
with_byte hash byte = mul (rotate_left w64 (bit_xor hash (mul byte prime5)) 11) prime1

-- a hash with the fewer than eight bytes that no word has
unfoldable pub with_tail : ℕ → List ℕ → ℕ
with_tail hash (a ∷ b ∷ c ∷ d ∷ bytes) = fold with_byte (with_half hash (a ∷ b ∷ c ∷ d ∷ [])) bytes
with_tail hash bytes = fold with_byte hash bytes

-- the last mixing
abbrev pub shifted : ℕ → ℕ → ℕ
shifted hash by = bit_xor hash (hash / 2 ^ by)

unfoldable pub avalanche : ℕ → ℕ
avalanche hash = shifted (mul (shifted (mul (shifted hash 33) prime2) 29) prime3) 32

-- the words of these bytes, and the bytes that no word has
abbrev pub words_of : List ℕ → List (List ℕ)
words_of bytes = first_chunks 8 (length bytes / 8) bytes

abbrev pub tail_of : List ℕ → List ℕ
tail_of bytes = drop (length bytes / 8 * 8) bytes

-- the hash
unfoldable pub xxh64 : List ℕ → ℕ
xxh64 bytes =
    avalanche (with_tail (fold with_word (add (of_stripes (words_of bytes)) (length bytes)) (after_stripes (words_of bytes))) (tail_of bytes))
