-- The front fails, or one piece more is stripped.
use Rattle.std.proofs.Common.{◌≡◌, ◌∷◌, ◌≤◌, List, arith, drop, length, length-drop, subst, sym}
use Rattle.std.proofs.lemmas.List.{take_rest}
use Rattle.like_patterns.specs.declared.pieces.Piece.{Piece}
use Rattle.like_patterns.specs.Characters.{compared}
use Rattle.like_patterns.specs.Pieces.{StripsTo, fixed_parts, parts_of}
use Rattle.like_patterns.proofs.Stripping.{first_is, fixed_is_fixed, strips_at, strips_fails, strips_more, strips_none}
use Rattle.like_patterns.proofs.matching.strip_front.Goals as goal

pub loop-left-init : goal.loop-left-init
loop-left-init c = record {
  strips = strips_none (parts_of c.args.case c.args.pieces.now) (compared c.args.case c.args.text.now);
  shorter = omega arith;
  utf8 = c.requires;
}

pub returns-in_err-rest-in-Fixed-clause-left : goal.returns-in_err-rest-in-Fixed-clause-left
returns-in_err-rest-in-Fixed-clause-left c =
    let case = c.args.case in
    let left = c.loop-left.left.now in
    let all = parts_of case c.args.pieces.now in
    let text = compared case c.args.text.now in
    let rest = compared case c.loop-left.rest.now in
    let fixed = c.in-Fixed.fixed in
    let first : left ≡ c.piece-item.result ∷ drop 1 left = first_is left c.piece-item.result c.in-len1-up.len_at_least c.piece-item.is in
    rw c.from_residual.ensures
    (strips_fails all (fixed_parts case fixed) (parts_of case (drop 1 left)) text rest (strips_at case all left (drop 1 left) c.piece-item.result fixed text rest first c.in-Fixed.is c.loop-left.invariant.strips) c.in_err-rest-in-Fixed.ensures.rest)

pub loop-left-preserved : goal.loop-left-preserved
loop-left-preserved c =
    let case = c.args.case in
    let left = c.loop-left.left.now in
    let all = parts_of case c.args.pieces.now in
    let text = compared case c.args.text.now in
    let rest = compared case c.loop-left.rest.now in
    let next = compared case c.in_ok-rest-in-Fixed.rest.now in
    let fixed = c.in-Fixed.fixed in
    let first : left ≡ c.piece-item.result ∷ drop 1 left = first_is left c.piece-item.result c.in-len1-up.len_at_least c.piece-item.is in
    let below : length (drop 1 left) ≤ length c.args.pieces.now = omega (arith, length-drop 1 left, c.loop-left.invariant.shorter) in
    record {
      strips = subst (λ (l : List Piece). StripsTo all text (parts_of case l) next) (sym (take_rest left 1))
          (strips_more all (fixed_parts case fixed) (parts_of case (drop 1 left)) text rest next (fixed_is_fixed case fixed)
          (strips_at case all left (drop 1 left) c.piece-item.result fixed text rest first c.in-Fixed.is c.loop-left.invariant.strips) c.in_ok-rest-in-Fixed.ensures.rest);
      shorter = subst (λ (l : List Piece). length l ≤ length c.args.pieces.now) (sym (take_rest left 1)) below;
      utf8 = c.in_ok-rest-in-Fixed.ensures.utf8;
    }
