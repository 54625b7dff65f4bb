-- How many blocks a filter has for so many values and a rate of false answers in millionths.
-- If blocks get m values on the mean, r of the values that were never inserted may be contained, where r is the sum over all k
-- of (1 - (31 / 32) ^ k) ^ 8, times the chance that a block gets k values by Poisson's law of mean m.
use Rattle.std.specs.Prelude.{ℕ, ◌+◌, ◌-◌, ◌*◌, ◌/◌, ◌^◌, List, [], ◌∷◌, min, max, slice_index}
use Rattle.std.specs.Int.{div_ceil, leading_zeros, w32}
use Rattle.membership.specs.BloomFilters.{max_blocks}

-- 1,000 times m, for r of 2 ^ i millionths, for i from 0 to 19
abbrev pub capacities : List ℕ
capacities =
    3959 ∷ 4552 ∷ 5222 ∷ 5981 ∷ 6840 ∷ 7815 ∷ 8924 ∷ 10188 ∷ 11636 ∷ 13301
    ∷ 15228 ∷ 17476 ∷ 20126 ∷ 23287 ∷ 27126 ∷ 31896 ∷ 38026 ∷ 46327 ∷ 58641 ∷ 81047 ∷ []

-- the greatest i such that 2 ^ i is at most the rate
abbrev pub exponent : ℕ → ℕ
exponent rate = 31 - leading_zeros w32 rate

-- the same for a rate between two of these: on the line between them
unfoldable pub capacity : ℕ → ℕ
capacity rate =
    let i = exponent rate in
    let above = rate - 2 ^ i in
    (slice_index capacities i * (2 ^ i - above) + slice_index capacities (i + 1) * above) / 2 ^ i

-- the rates that are answered: any other is taken for the nearest of them
abbrev pub known_rate : ℕ → ℕ
known_rate rate = max 1 (min rate 524287)

-- the number of blocks
unfoldable pub blocks_for : ℕ → ℕ → ℕ
blocks_for values rate = max 1 (min (div_ceil (values * 1000) (capacity (known_rate rate))) max_blocks)
