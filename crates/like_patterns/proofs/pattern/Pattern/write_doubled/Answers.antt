-- The pieces are the pattern.
use Rattle.std.proofs.Common.{List, Some, ◌∙◌, ap}
use Rattle.std.proofs.Output.{has_written_of_eq}
use Rattle.like_patterns.specs.declared.case.Case.TheVariants.{Sensitive}
use Rattle.like_patterns.specs.Patterns.{Part}
use Rattle.like_patterns.specs.Pieces.{parts_of}
use Rattle.like_patterns.specs.Texts.{pattern_text, quotable_text}
use Rattle.like_patterns.proofs.pattern.Pattern.write_doubled.Goals as goal

pub returns : goal.returns
returns g c plain ok =
    has_written_of_eq _ _ _ _ _ (ap (λ (l : List Part). quotable_text (Some c.args.quote) (pattern_text l)) (ap (parts_of Sensitive) c.deref.ensures.value ∙ c.self.view_is)) (c.write_pieces.ensures plain ok)
