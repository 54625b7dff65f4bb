-- The filter of a column in pieces, one for each of its blocks.
use Rattle.std.specs.Prelude.{ℕ, ◌*◌, ◌/◌, ◌==◌, Bool, true, List, Option, Some, None, drop, length, take, if◌then◌else◌}
use Rattle.std.specs.Simd.{first_chunks}
use Rattle.membership.specs.Words.{may_contain}

-- a block of a filter: 32 bytes
abbrev pub block_at : List ℕ → ℕ → List ℕ
block_at filter b = take 32 (drop (32 * b) filter)

-- the blocks of a filter, in order
abbrev pub blocks_in : List ℕ → List (List ℕ)
blocks_in filter = first_chunks 32 (length filter / 32) filter

-- whether a block may contain a hash: what has another length may
abbrev pub block_may_contain : List ℕ → ℕ → Bool
block_may_contain piece hash = if length piece == 32 then may_contain piece hash else true

-- the same of a piece that need not be there
abbrev pub piece_may_contain : Option (List ℕ) → ℕ → Bool
piece_may_contain None hash = true
piece_may_contain (Some piece) hash = block_may_contain piece hash
