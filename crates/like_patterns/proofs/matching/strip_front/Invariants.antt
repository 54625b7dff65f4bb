-- What was stripped is of the front.
use Rattle.std.proofs.Common.{◌≤◌, length}
use Rattle.std.specs.Str.{IsUtf8}
use Rattle.like_patterns.specs.Characters.{compared}
use Rattle.like_patterns.specs.Pieces.{StripsTo, parts_of}
use Rattle.like_patterns.proofs.matching.strip_front.Given as goal

abbrev pub invariant-loop-left : goal.invariant-loop-left
invariant-loop-left l = record {
  strips : StripsTo (parts_of l.case l.pieces) (compared l.case l.text) (parts_of l.case l.left) (compared l.case l.rest);
  shorter : length l.left ≤ length l.pieces;
  utf8 : IsUtf8 l.rest;
}

abbrev pub decreases-loop-left : goal.decreases-loop-left
decreases-loop-left l = length l.left
