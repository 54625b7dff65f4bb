-- More than one `%` is left, or another wildcard, or none.
use Rattle.std.proofs.Common.{◌≡◌, ◌++◌, ◌∙◌, ap, sym}
use Rattle.std.proofs.lemmas.Bool.{false≢true}
use Rattle.std.specs.Str.{chars}
use Rattle.like_patterns.specs.declared.case.Case.TheVariants.{Sensitive}
use Rattle.like_patterns.specs.Pieces.{literals, parts_of}
use Rattle.like_patterns.proofs.Beginnings.{prefix_only}
use Rattle.like_patterns.proofs.pattern.Pattern.as_prefix.Goals as goal

pub returns-else-is_any_string : goal.returns-else-is_any_string
returns-else-is_any_string c = λ prefix.
    let text = c.leading_text.result.0.now in
    let behind = c.leading_text.result.1.now in
    let are : c.args.self.now ≡ literals (chars text) ++ parts_of Sensitive behind = sym c.self.view_is ∙ ap (parts_of Sensitive) (sym c.deref.ensures.value) ∙ c.leading_text.ensures.parts in
    false≢true (sym c.if-is_any_string.false ∙ c.is_any_string.ensures.1 (prefix_only text c.args.self.now behind are c.leading_text.ensures.behind prefix.0 prefix.1))
