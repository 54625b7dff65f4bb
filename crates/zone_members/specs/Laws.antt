-- The laws of members in pieces.
use Rattle.std.specs.Prelude.{◌≡◌, ℕ, ◌+◌, ◌*◌, ◌<◌, ◌≤◌, ◌^◌, Bool, true, List, ◌++◌, length, slice_get, if◌then◌else◌}
use Rattle.membership.specs.BloomFilters.{max_blocks}
use Rattle.membership.specs.Words.{block_of, may_contain}
use Rattle.zone_index.specs.Encoding.{is_wanted, wanted_pieces}
use Rattle.zone_members.specs.Pieces.{blocks_in, piece_may_contain}

-- of pieces of which some are wanted, the one of a hash says what the filter says; if it is not wanted, the hash may be contained
abbrev pub PiecesDecide : Type 0
PiecesDecide = (before after : List (List ℕ)) (filter : List ℕ) (blocks hash : ℕ) (wanted : List Bool)
    → length filter ≡ 32 * blocks → 0 < blocks → blocks ≤ max_blocks → hash < 2 ^ 64
    → piece_may_contain (slice_get (wanted_pieces wanted 0 (before ++ (blocks_in filter ++ after))) (length before + block_of blocks hash)) hash
    ≡ (if is_wanted wanted (length before + block_of blocks hash) then may_contain filter hash else true)
