-- The hashes of the literals so far.
use Rattle.std.proofs.Common.{◌≡◌, ◌≤◌, length, map, take}
use Rattle.std.specs.Vec.{vec_capacity, vec_len}
use Rattle.vortex_cells.specs.Cells.{cell_of}
use Rattle.filter_membership.specs.Filters.{literal_hash}
use Rattle.filter_membership.proofs.preparing.hash_literals.Given as goal

abbrev pub invariant-loop-literal : goal.invariant-loop-literal
invariant-loop-literal l =
    (l.hashes.items ≡ map literal_hash (map cell_of (take l.literal-index l.literals))) × (vec_len l.hashes ≡ l.literal-index) × (length l.literals ≤ vec_capacity l.hashes)
