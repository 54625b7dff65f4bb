-- Another `%`, a character more, and none.
use Rattle.std.proofs.Common.{◌++◌, ◌∙◌, ap}
use Rattle.like_patterns.specs.declared.pieces.Piece.{Piece}
use Rattle.like_patterns.specs.declared.pieces.Piece.TheVariants as pieces
use Rattle.like_patterns.specs.Characters.{compared}
use Rattle.like_patterns.specs.Pieces.{matches_inside, parts_of, piece_parts}
use Rattle.like_patterns.proofs.Stripping.{inside_any, inside_no_one, inside_one, one_begins}
use Rattle.like_patterns.proofs.matching.strip_piece.Goals as goal

pub returns-in-AnyString-clause-left : goal.returns-in-AnyString-clause-left
returns-in-AnyString-clause-left c =
    let parts = parts_of c.args.case c.args.behind.now in
    let text = compared c.args.case c.args.text.now in
    ap (λ (p : Piece). matches_inside (piece_parts c.args.case p ++ parts) text) c.in-AnyString.is ∙ inside_any parts text

pub returns-in-Some-clause-left : goal.returns-in-Some-clause-left
returns-in-Some-clause-left c =
    let parts = parts_of c.args.case c.args.behind.now in
    let text = compared c.args.case c.args.text.now in
    ap (λ (p : Piece). matches_inside (piece_parts c.args.case p ++ parts) text) (c.in-Fixed.is ∙ ap pieces.Fixed c.in-AnyCharacter.is)
    ∙ inside_one parts text (compared c.args.case c.in-Some.rest.now) (one_begins c.args.case c.args.text.now c.in-Some.rest.now c.requires c.in-Some.ensures.rest)

pub returns-in-None-clause-left : goal.returns-in-None-clause-left
returns-in-None-clause-left c =
    let parts = parts_of c.args.case c.args.behind.now in
    let text = compared c.args.case c.args.text.now in
    ap (λ (p : Piece). matches_inside (piece_parts c.args.case p ++ parts) text) (c.in-Fixed.is ∙ ap pieces.Fixed c.in-AnyCharacter.is)
    ∙ inside_no_one c.args.case parts c.args.text.now c.in-None.ensures.rest
