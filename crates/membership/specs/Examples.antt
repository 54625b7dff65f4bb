-- Worked cases of the definitions, each a theorem.
use Rattle.std.specs.Prelude.{◌≡◌, ℕ, List, [], ◌∷◌, true, false, codes, map, fold, refl}
use Rattle.membership.specs.BloomFilters.{empty_filter, may_contain, place, with_bit, with_hash}
use Rattle.membership.specs.Capacities.{blocks_for, capacity}
use Rattle.membership.specs.Xxh64.{after_stripes, avalanche, converged, merged, of_stripes, round, with_byte, with_half, with_stripe, with_stripes, with_tail, with_word, xxh64}

-- published hashes
pub hash-of-nothing : xxh64 [] ≡ 0xef46db3751d8e999
unfolding xxh64 avalanche with_tail of_stripes after_stripes
hash-of-nothing = refl

pub hash-of-a-byte : xxh64 (codes "a") ≡ 0xd24ec4f1a98c6e5b
unfolding xxh64 avalanche with_tail with_byte of_stripes after_stripes
hash-of-a-byte = refl

pub hash-of-three-bytes : xxh64 (codes "abc") ≡ 0x44bc2cf5ad770999
unfolding xxh64 avalanche with_tail with_byte of_stripes after_stripes
hash-of-three-bytes = refl

-- with words, a half and bytes that no stripe has
pub hash-of-a-text : xxh64 (codes "message digest") ≡ 0x066ed728fceeb3be
unfolding xxh64 avalanche with_tail with_byte with_half with_word round of_stripes after_stripes
hash-of-a-text = refl

-- with a stripe
pub hash-of-a-stripe : xxh64 (codes "abcdefghijklmnopqrstuvwxyz0123456789") ≡ 0x64f23ecf1609b766
unfolding xxh64 avalanche with_tail with_byte with_half with_word round merged converged with_stripe with_stripes of_stripes after_stripes
hash-of-a-stripe = refl

-- the filter of one block that parquet-mr makes of a0, a1 and so on to a9, whose hashes these are
pub hashes : List ℕ
hashes = map xxh64 (codes "a0" ∷ codes "a1" ∷ codes "a2" ∷ codes "a3" ∷ codes "a4" ∷ codes "a5" ∷ codes "a6" ∷ codes "a7" ∷ codes "a8" ∷ codes "a9" ∷ [])

pub filter : List ℕ
filter = 200 ∷ 1 ∷ 80 ∷ 20 ∷ 64 ∷ 68 ∷ 8 ∷ 109 ∷ 6 ∷ 37 ∷ 4 ∷ 67 ∷ 144 ∷ 80 ∷ 96 ∷ 32 ∷ 8 ∷ 132 ∷ 43 ∷ 33 ∷ 0 ∷ 5 ∷ 99 ∷ 65 ∷ 2 ∷ 0 ∷ 224 ∷ 44 ∷ 64 ∷ 78 ∷ 96 ∷ 4 ∷ []

pub filter-of-ten : fold with_hash (empty_filter 1) hashes ≡ filter
unfolding hashes filter with_hash with_bit place xxh64 avalanche with_tail with_byte of_stripes after_stripes
filter-of-ten = refl

pub ten-are-contained : map (may_contain filter) hashes ≡ true ∷ true ∷ true ∷ true ∷ true ∷ true ∷ true ∷ true ∷ true ∷ true ∷ []
unfolding hashes filter may_contain place xxh64 avalanche with_tail with_byte of_stripes after_stripes
ten-are-contained = refl

pub stranger-is-not : may_contain filter (xxh64 (codes "b")) ≡ false
unfolding filter may_contain place xxh64 avalanche with_tail with_byte of_stripes after_stripes
stranger-is-not = refl

-- a rate of one in a hundred, which takes 10.6 bits a value
pub blocks-for-a-million : blocks_for 1000000 10000 ≡ 41436
unfolding blocks_for capacity lib.Count.count_leading_zeros
blocks-for-a-million = refl

-- there is no rate of 0, and no filter without a block
pub blocks-for-nothing : blocks_for 0 0 ≡ 1
unfolding blocks_for capacity lib.Count.count_leading_zeros
blocks-for-nothing = refl
