-- The front fails, no piece is left, or `%` is the next.
use Rattle.std.proofs.Common.{List, ◌∷◌, ◌∙◌, ap, sym}
use Rattle.std.proofs.lemmas.List.{take_rest}
use Rattle.std.specs.Str.{chars}
use Rattle.like_patterns.specs.declared.pieces.Piece.{Piece}
use Rattle.like_patterns.specs.Characters.{compared}
use Rattle.like_patterns.specs.Patterns.{any_string, matches}
use Rattle.like_patterns.specs.Pieces.{parts_of}
use Rattle.like_patterns.proofs.Splitting.{none_matches}
use Rattle.like_patterns.proofs.Stripping.{any_left, ends_here, no_pieces, strips_match_all}
use Rattle.like_patterns.proofs.matching.is_match.Goals as goal

pub returns-in-None : goal.returns-in-None
returns-in-None c = sym (none_matches (parts_of c.args.case c.args.pieces.now) (chars (compared c.args.case c.args.text.now)) c.in-None.ensures.left)

pub returns-in-empty : goal.returns-in-empty
returns-in-empty c =
    let case = c.args.case in
    let left = c.in-Some.left.now in
    let rest = c.in-Some.rest.now in
    ends_here case rest c.is_empty.result c.is_empty.ensures c.in-Some.ensures.utf8
    ∙ ap (λ (l : List Piece). matches (parts_of case l) (chars (compared case rest))) (sym (no_pieces left c.in-empty.len_below))
    ∙ sym (strips_match_all (parts_of case c.args.pieces.now) (parts_of case left) (compared case c.args.text.now) (compared case rest) c.in-Some.ensures.left)

pub returns-in-len1-up : goal.returns-in-len1-up
returns-in-len1-up c =
    let case = c.args.case in
    let left = c.in-Some.left.now in
    let rest = c.in-Some.rest.now in
    c.is_match_behind_any.ensures
    ∙ ap (λ (l : List Piece). matches (any_string ∷ parts_of case l) (chars (compared case rest))) (take_rest left 1)
    ∙ ap (λ (l : List Piece). matches (parts_of case l) (chars (compared case rest))) (sym (any_left left c.in-Some.ensures.stops c.in-len1-up.len_at_least))
    ∙ sym (strips_match_all (parts_of case c.args.pieces.now) (parts_of case left) (compared case c.args.text.now) (compared case rest) c.in-Some.ensures.left)
