-- The zones so far have pieces.
use Rattle.std.proofs.Common.{ℕ, List, take}
use Rattle.zone_index.specs.Encoding.{HavePieces, zone_values}
use Rattle.zone_index.proofs.writing.have_pieces.Given as goal

abbrev pub invariant-loop-zone : goal.invariant-loop-zone
invariant-loop-zone l = (pieces : List (List (List ℕ))) × HavePieces l.columns (zone_values (take l.zone-index l.zones)) pieces
