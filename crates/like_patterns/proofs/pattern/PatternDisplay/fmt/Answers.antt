-- Without a quote, the characters as they are.
use Rattle.std.proofs.Common.{List, None, ◌∙◌, ap}
use Rattle.std.proofs.Output.{has_written_of_eq}
use Rattle.like_patterns.specs.declared.case.Case.TheVariants.{Sensitive}
use Rattle.like_patterns.specs.Patterns.{Part}
use Rattle.like_patterns.specs.Pieces.{parts_of}
use Rattle.like_patterns.specs.Texts.{pattern_text, quotable_text}
use Rattle.like_patterns.proofs.Writing.{without_quote}
use Rattle.like_patterns.proofs.pattern.PatternDisplay.fmt.Goals as goal

pub returns-clause-writes : goal.returns-clause-writes
returns-clause-writes g c plain ok =
    has_written_of_eq _ _ _ _ _ (ap (λ (l : List Part). quotable_text None (pattern_text l)) (ap (parts_of Sensitive) c.deref.ensures.value ∙ c.self.view_is) ∙ without_quote (pattern_text c.args.self.now)) (c.write_pieces.ensures plain ok)
