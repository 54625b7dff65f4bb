-- The pieces that are left have a special character just if all have one.
use Rattle.std.proofs.Common.{◌≡◌, drop}
use Rattle.like_patterns.specs.declared.case.Case.TheVariants.{Sensitive}
use Rattle.like_patterns.specs.Pieces.{parts_of}
use Rattle.like_patterns.specs.Texts.{has_special}
use Rattle.like_patterns.proofs.pattern.Pattern.needs_escape.Given as goal

abbrev pub invariant-loop-piece : goal.invariant-loop-piece
invariant-loop-piece l = has_special (parts_of Sensitive (drop l.piece-index l.piece-items)) ≡ has_special (parts_of Sensitive l.piece-items)
