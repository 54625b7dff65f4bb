-- As it is compared, and as it is.
use Rattle.std.proofs.Common.{ℕ, List, ◌∙◌, ap}
use Rattle.std.specs.Str.{chars}
use Rattle.like_patterns.specs.declared.case.Case.TheVariants.{Sensitive}
use Rattle.like_patterns.specs.Patterns.{Part, is_like}
use Rattle.like_patterns.specs.Pieces.{parts_of}
use Rattle.like_patterns.proofs.Comparing.{is_like_is}
use Rattle.like_patterns.proofs.pattern.Pattern.is_match.Goals as goal

pub returns : goal.returns
returns c =
    c.is_match.ensures ∙ is_like_is c.args.case c.deref.result.now c.as_bytes.result.now c.as_bytes.ensures.utf8
    ∙ ap (λ (l : List ℕ). is_like c.args.case (parts_of Sensitive c.deref.result.now) (chars l)) c.as_bytes.ensures.value
    ∙ ap (λ (l : List Part). is_like c.args.case l (chars c.args.text.now)) (ap (parts_of Sensitive) c.deref.ensures.value ∙ c.self.view_is)
