-- The end fails, another `%` comes, or the pieces are all stripped.
use Rattle.std.proofs.Common.{List, ◌∷◌, ◌∙◌, ap, arith, sym}
use Rattle.std.specs.Str.{chars}
use Rattle.like_patterns.specs.declared.pieces.Piece.{Piece}
use Rattle.like_patterns.specs.Characters.{compared}
use Rattle.like_patterns.specs.Patterns.{Part, any_string, matches}
use Rattle.like_patterns.specs.Pieces.{fixed_parts, parts_of}
use Rattle.like_patterns.proofs.Splitting.{any_alone}
use Rattle.like_patterns.proofs.Stripping.{ends_with, ends_with_any, fixed_is_fixed, no_pieces, strips_end}
use Rattle.like_patterns.proofs.matching.is_match_behind_any.Goals as goal

pub returns-in-None : goal.returns-in-None
returns-in-None c =
    let case = c.args.case in
    let left = c.loop-piece.left.now in
    let before = c.in-Some.before.now in
    let rest = chars (compared case c.loop-piece.rest.now) in
    sym
    (c.loop-piece.invariant.same
    ∙ ap (λ (l : List Part). matches (any_string ∷ l) rest) (ends_with case left before c.in-Some.piece.now c.in-Fixed.fixed c.in-Some.ensures.cases.0 c.in-Fixed.is)
    ∙ c.in-None.ensures.front (any_string ∷ parts_of case before))

pub returns-in-AnyString : goal.returns-in-AnyString
returns-in-AnyString c =
    let case = c.args.case in
    let left = c.loop-piece.left.now in
    let before = c.in-Some.before.now in
    let rest = chars (compared case c.loop-piece.rest.now) in
    c.is_match_inside.ensures
    ∙ ap (λ (l : List Part). matches (any_string ∷ l) rest) (sym (ends_with_any case left before c.in-Some.piece.now c.in-Some.ensures.cases.0 c.in-AnyString.is))
    ∙ sym c.loop-piece.invariant.same

pub loop-piece-preserved : goal.loop-piece-preserved
loop-piece-preserved c =
    let case = c.args.case in
    let left = c.loop-piece.left.now in
    let before = c.in-Some.before.now in
    let rest = compared case c.loop-piece.rest.now in
    record {
      same = c.loop-piece.invariant.same
          ∙ ap (λ (l : List Part). matches (any_string ∷ l) (chars rest)) (ends_with case left before c.in-Some.piece.now c.in-Fixed.fixed c.in-Some.ensures.cases.0 c.in-Fixed.is)
          ∙ strips_end (any_string ∷ parts_of case before) (fixed_parts case c.in-Fixed.fixed) rest (compared case c.in-Some-before.front.now) (fixed_is_fixed case c.in-Fixed.fixed) c.in-Some-before.ensures.front;
      utf8 = c.in-Some-before.ensures.utf8;
    }

pub returns : goal.returns
returns c =
    let case = c.args.case in
    let rest = chars (compared case c.loop-piece.rest.now) in
    sym
    (c.loop-piece.invariant.same
    ∙ ap (λ (l : List Piece). matches (any_string ∷ parts_of case l) rest) (no_pieces c.loop-piece.left.now (omega (arith, c.in_default.ensures.cases)))
    ∙ any_alone rest)
