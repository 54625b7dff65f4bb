-- The pieces that are left match what is left just if all match all.
use Rattle.std.proofs.Common.{◌≡◌, ◌∷◌, length}
use Rattle.std.specs.Str.{IsUtf8, chars}
use Rattle.like_patterns.specs.Characters.{compared}
use Rattle.like_patterns.specs.Patterns.{any_string, matches}
use Rattle.like_patterns.specs.Pieces.{parts_of}
use Rattle.like_patterns.proofs.matching.is_match_behind_any.Given as goal

abbrev pub invariant-loop-piece : goal.invariant-loop-piece
invariant-loop-piece l = record {
  same : matches (any_string ∷ parts_of l.case l.pieces) (chars (compared l.case l.text)) ≡ matches (any_string ∷ parts_of l.case l.left) (chars (compared l.case l.rest));
  utf8 : IsUtf8 l.rest;
}

abbrev pub decreases-loop-piece : goal.decreases-loop-piece
decreases-loop-piece l = length l.left
