-- The pieces that are left match what is left just if all match all.
use Rattle.std.proofs.Common.{◌≡◌, length}
use Rattle.std.specs.Str.{IsUtf8}
use Rattle.like_patterns.specs.Characters.{compared}
use Rattle.like_patterns.specs.Pieces.{matches_inside, parts_of}
use Rattle.like_patterns.proofs.matching.is_match_inside.Given as goal

abbrev pub invariant-loop-left : goal.invariant-loop-left
invariant-loop-left l = record {
  same : matches_inside (parts_of l.case l.pieces) (compared l.case l.text) ≡ matches_inside (parts_of l.case l.left) (compared l.case l.rest);
  utf8 : IsUtf8 l.rest;
}

abbrev pub decreases-loop-left : goal.decreases-loop-left
decreases-loop-left l = length l.left
