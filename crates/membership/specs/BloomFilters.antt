-- Split block Bloom filters as Parquet lays them out: blocks of eight words of 32 bits, each word in four bytes, the low one first.
-- So a filter is a bitmap: bit k of word w of block b is bit 256 * b + 32 * w + k of it, and bit i is bit i % 8 of byte i / 8.
use Rattle.std.specs.Prelude.{ℕ, ◌+◌, ◌*◌, ◌/◌, ◌%◌, ◌^◌, ◌≤◌, ◌≡◌, ◌==◌, Bool, List, [], ◌∷◌, length, map, fold, bit_or, slice_index, slice_set, replicate}
use Rattle.std.specs.Int.{bit_at}
use Rattle.std.specs.List.{list_all}
use Rattle.std.specs.Simd.Lanes.{zip2}

-- the largest number of blocks: the length in bytes fits 31 bits
abbrev pub max_blocks : ℕ
max_blocks = 0x3ffffff

-- how many bytes a filter may have
pub record IsFilterLength (n : ℕ) : Type 0 where
  pub whole : n % 32 ≡ 0
  pub some : 32 ≤ n
  pub fits : n ≤ 32 * max_blocks

-- the salts of the eight words of a block
abbrev pub salts : List ℕ
salts = 0x47b6137b ∷ 0x44974d91 ∷ 0x8824ad5b ∷ 0xa2b7289d ∷ 0x705495c7 ∷ 0x2df1424b ∷ 0x9efc4947 ∷ 0x5c6bfb31 ∷ []

-- the block that a hash belongs to, of so many, by the hash's upper half
abbrev pub block_of : ℕ → ℕ → ℕ
block_of count hash = hash / 2 ^ 32 * count / 2 ^ 32

-- the bit that a hash has in the word with this salt, by the hash's lower half
abbrev pub bit_in_word : ℕ → ℕ → ℕ
bit_in_word hash salt = hash % 2 ^ 32 * salt % 2 ^ 32 / 2 ^ 27

-- where the bit of a hash in word w of its block is in the bitmap
unfoldable pub place : ℕ → ℕ → ℕ → ℕ
place count hash w = 256 * block_of count hash + 32 * w + bit_in_word hash (slice_index salts w)

-- where its eight bits are
abbrev pub places : ℕ → ℕ → List ℕ
places count hash = map (place count hash) (0 ∷ 1 ∷ 2 ∷ 3 ∷ 4 ∷ 5 ∷ 6 ∷ 7 ∷ [])

-- the filter of so many blocks without a bit
abbrev pub empty_filter : ℕ → List ℕ
empty_filter blocks = replicate (32 * blocks) 0

-- bit i is set
abbrev pub is_set : List ℕ → ℕ → Bool
is_set filter i = bit_at (slice_index filter (i / 8)) (i % 8) == 1

-- the filter with bit i set
unfoldable pub with_bit : List ℕ → ℕ → List ℕ
with_bit filter i = slice_set filter (i / 8) (bit_or (slice_index filter (i / 8)) (2 ^ (i % 8)))

-- the filter with the bits of a hash set
unfoldable pub with_hash : List ℕ → ℕ → List ℕ
with_hash filter hash = fold with_bit filter (places (length filter / 32) hash)

-- all bits of a hash are set
unfoldable pub may_contain : List ℕ → ℕ → Bool
may_contain filter hash = list_all (is_set filter) (places (length filter / 32) hash)

-- the bits of two filters of one length
unfoldable pub union : List ℕ → List ℕ → List ℕ
union filter other = zip2 bit_or filter other
