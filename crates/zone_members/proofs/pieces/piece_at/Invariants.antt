-- What is left are the pieces from the number on that was counted to.
use Rattle.std.proofs.Common.{◌≡◌, ℕ, List, drop}
use Rattle.std.specs.List.{flat_map}
use Rattle.zone_index.specs.Encoding.{ArePieces, bytes_encoding}
use Rattle.zone_members.proofs.pieces.piece_at.Given as goal

abbrev pub invariant-loop : goal.invariant-loop
invariant-loop l = (count : ℕ) (all : List (List ℕ)) → ArePieces count l.pieces all → l.rest ≡ flat_map bytes_encoding (drop l.counter all)
