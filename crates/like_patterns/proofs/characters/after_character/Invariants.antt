-- All that was passed is inside of the first character.
use Rattle.std.proofs.Common.{length}
use Rattle.like_patterns.proofs.OneCharacter.{Skipped}
use Rattle.like_patterns.proofs.characters.after_character.Given as goal

abbrev pub invariant-loop-rest : goal.invariant-loop-rest
invariant-loop-rest l = Skipped l.text l.rest

abbrev pub decreases-loop-rest : goal.decreases-loop-rest
decreases-loop-rest l = length l.rest
