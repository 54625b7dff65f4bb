-- The laws of filters.
use Rattle.std.specs.Prelude.{◌≡◌, ℕ, ◌/◌, ◌<◌, ◌^◌, ◌==◌, ◌||◌, List, length}
use Rattle.std.specs.List.{list_any}
use Rattle.membership.specs.BloomFilters.{IsFilterLength, is_set, places, with_hash}

-- with a hash more, the bits are those from before and the eight bits of the hash
abbrev pub SetsBits : Type 0
SetsBits = (filter : List ℕ) (hash i : ℕ) → IsFilterLength (length filter) → hash < 2 ^ 64 → is_set (with_hash filter hash) i ≡ (is_set filter i || list_any (λ p. p == i) (places (length filter / 32) hash))
