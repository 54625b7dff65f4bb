-- The characters that stand first.
use Rattle.std.proofs.Common.{◌≡◌, ◌++◌, ◌∙◌, ap, sym}
use Rattle.std.specs.Str.{chars}
use Rattle.like_patterns.specs.declared.case.Case.TheVariants.{Sensitive}
use Rattle.like_patterns.specs.Pieces.{literals, parts_of}
use Rattle.like_patterns.proofs.Beginnings.{leading_is}
use Rattle.like_patterns.proofs.pattern.Pattern.prefix.Goals as goal

pub returns : goal.returns
returns c =
    let text = c.leading_text.result.0.now in
    let behind = c.leading_text.result.1.now in
    let are : c.args.self.now ≡ literals (chars text) ++ parts_of Sensitive behind = sym c.self.view_is ∙ ap (parts_of Sensitive) (sym c.deref.ensures.value) ∙ c.leading_text.ensures.parts in
    leading_is text c.args.self.now behind c.leading_text.ensures.utf8 are c.leading_text.ensures.behind
