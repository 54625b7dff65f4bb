-- The characters so far, and all.
use Rattle.std.proofs.Common.{ℕ, List, sym, ◌∙◌, ap, refl}
use Rattle.std.proofs.Output.{has_written_append, has_written_of_eq}
use Rattle.std.proofs.lemmas.Iterator.{YieldsList-from_chars}
use Rattle.std.proofs.lemmas.Iterator.Consumers.{YieldsList-end}
use Rattle.std.proofs.lemmas.List.{map-id}
use Rattle.like_patterns.specs.Pieces.{literals}
use Rattle.like_patterns.specs.Texts.{pattern_text, quotable_text}
use Rattle.like_patterns.proofs.Writing.{text_push}
use Rattle.like_patterns.proofs.pattern.write_text.Goals as goal

pub returns : goal.returns
returns g c plain ok =
    let end = YieldsList-end (YieldsList-from_chars c.args.text.now c.utf8.text cc) c.loop-character.yielded _ c.loop-character.yielded_by _ _ c.in-None.is c.next.ensures.steps in
    has_written_of_eq _ _ _ _ _ (ap (λ (l : List ℕ). quotable_text c.args.quote (pattern_text (literals l))) (sym (map-id c.loop-character.yielded) ∙ end.0)) (c.loop-character.invariant plain)

pub loop-character-preserved : goal.loop-character-preserved
loop-character-preserved g c plain =
    let so_far = c.loop-character.invariant plain in
    let step = c.in_ok-write_literal.ensures so_far.plain refl in
    has_written_of_eq _ _ _ _ _ (text_push c.args.quote c.loop-character.yielded c.in-Some.character) (has_written_append _ _ _ _ _ _ so_far step)
