-- The blocks of an index that are wanted.
use Rattle.std.specs.Prelude.{ℕ, suc, List, [], ◌∷◌, ◌++◌, Bool, drop, map, sum_by, take, if◌then◌else◌}
use Rattle.zone_index.specs.Encoding.{BlockValue, RootValue, is_wanted}

-- the bytes of the blocks that are wanted, from this place on, of the bytes of all
abbrev pub wanted_bytes : List Bool → ℕ → List BlockValue → List ℕ → List ℕ
wanted_bytes wanted k [] bytes = []
wanted_bytes wanted k (b ∷ blocks) bytes = (if is_wanted wanted k then take b.length bytes else []) ++ wanted_bytes wanted (suc k) blocks (drop b.length bytes)

-- the blocks from this place on, without bytes where they are not wanted
abbrev pub wanted_blocks : List Bool → ℕ → List BlockValue → List BlockValue
wanted_blocks wanted k [] = []
wanted_blocks wanted k (b ∷ blocks) = record b { length = if is_wanted wanted k then b.length else 0 } ∷ wanted_blocks wanted (suc k) blocks

abbrev pub wanted_root : List Bool → RootValue → RootValue
wanted_root wanted r = record r { blocks = wanted_blocks wanted 0 r.blocks }

-- how many bytes they have
abbrev pub length_of_blocks : List BlockValue → ℕ
length_of_blocks blocks = sum_by (λ (b : BlockValue). b.length) blocks
