-- No characters stand first.
use Rattle.like_patterns.specs.declared.case.Case.TheVariants.{Sensitive}
use Rattle.like_patterns.specs.Pieces.{parts_of}
use Rattle.like_patterns.proofs.Stripping.{nothing_leads}
use Rattle.like_patterns.proofs.pattern.leading_text.Goals as goal

pub returns-in-empty-clause-parts : goal.returns-in-empty-clause-parts
returns-in-empty-clause-parts c = nothing_leads (parts_of Sensitive c.args.pieces.now)

pub returns-in_default-clause-parts : goal.returns-in_default-clause-parts
returns-in_default-clause-parts c = nothing_leads (parts_of Sensitive c.args.pieces.now)
