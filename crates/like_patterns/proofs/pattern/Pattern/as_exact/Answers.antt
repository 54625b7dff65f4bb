-- A wildcard is left.
use Rattle.std.proofs.Common.{◌≡◌, ◌++◌, ◌∙◌, ap, length, sym}
use Rattle.std.proofs.lemmas.Bool.{eqb-false}
use Rattle.std.specs.Str.{chars}
use Rattle.like_patterns.specs.declared.case.Case.TheVariants.{Sensitive}
use Rattle.like_patterns.specs.Pieces.{literals, parts_of}
use Rattle.like_patterns.proofs.Beginnings.{exact_only}
use Rattle.like_patterns.proofs.pattern.Pattern.as_exact.Goals as goal

pub returns-else-is_empty : goal.returns-else-is_empty
returns-else-is_empty c = λ exact.
    let text = c.leading_text.result.0.now in
    let behind = c.leading_text.result.1.now in
    let are : c.args.self.now ≡ literals (chars text) ++ parts_of Sensitive behind = sym c.self.view_is ∙ ap (parts_of Sensitive) (sym c.deref.ensures.value) ∙ c.leading_text.ensures.parts in
    eqb-false (length behind) 0 (sym c.is_empty.ensures ∙ c.if-is_empty.false) (ap length (exact_only text c.args.self.now behind are c.leading_text.ensures.behind exact.0 exact.1))
