-- The pieces match what is left just if they match all.
use Rattle.std.proofs.Common.{◌≡◌, ◌++◌, length}
use Rattle.std.specs.Str.{IsUtf8, chars}
use Rattle.std.specs.String.{string_bytes}
use Rattle.like_patterns.specs.Characters.{compared}
use Rattle.like_patterns.specs.Pieces.{literals, matches_inside, parts_of}
use Rattle.like_patterns.proofs.matching.find_piece.Given as goal

abbrev pub invariant-loop-place : goal.invariant-loop-place
invariant-loop-place l = record {
  same : matches_inside (literals (chars (compared l.case (string_bytes l.wanted.string))) ++ parts_of l.case l.behind) (compared l.case l.text)
      ≡ matches_inside (literals (chars (compared l.case (string_bytes l.wanted.string))) ++ parts_of l.case l.behind) (compared l.case l.rest);
  utf8 : IsUtf8 l.rest;
}

abbrev pub decreases-loop-place : goal.decreases-loop-place
decreases-loop-place l = length l.rest
