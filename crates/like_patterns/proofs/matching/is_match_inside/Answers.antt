-- No pieces match anywhere.
use Rattle.std.proofs.Common.{List, ◌∙◌, ap, sym}
use Rattle.like_patterns.specs.declared.pieces.Piece.{Piece}
use Rattle.like_patterns.specs.Characters.{compared}
use Rattle.like_patterns.specs.Pieces.{matches_inside, parts_of}
use Rattle.like_patterns.proofs.Stripping.{inside_none, no_pieces}
use Rattle.like_patterns.proofs.matching.is_match_inside.Goals as goal

pub returns : goal.returns
returns c =
    let rest = compared c.args.case c.loop-left.rest.now in
    sym (c.loop-left.invariant.same ∙ ap (λ (l : List Piece). matches_inside (parts_of c.args.case l) rest) (no_pieces c.loop-left.left.now c.in_default.len_below) ∙ inside_none rest)
