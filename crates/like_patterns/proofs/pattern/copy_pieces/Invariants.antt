-- The copies so far are of the shapes of the pieces.
use Rattle.std.proofs.Common.{◌≡◌, map, take}
use Rattle.like_patterns.specs.Pieces.{piece_shape}
use Rattle.like_patterns.proofs.pattern.copy_pieces.Given as goal

abbrev pub invariant-loop-piece : goal.invariant-loop-piece
invariant-loop-piece l = map piece_shape l.copies.items ≡ map piece_shape (take l.piece-index l.pieces)
