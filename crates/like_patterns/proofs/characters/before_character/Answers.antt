-- What begins the last character, or nothing.
use Rattle.std.proofs.Common.{◌-◌, ◌∙◌, get_or, length, sym, take}
use Rattle.std.proofs.lemmas.Bool.{false≢true}
use Rattle.like_patterns.proofs.OneCharacter.{backed_all, backed_nothing, last_byte, nothing_below}
use Rattle.like_patterns.proofs.characters.before_character.Goals as goal

pub returns-then-not-is_inside : goal.returns-then-not-is_inside
returns-then-not-is_inside c =
    let rest = c.loop-rest.rest.now in
    backed_all c.args.text.now rest (take (length rest - 1) rest) (get_or rest (length rest - 1) 0) c.requires (last_byte rest c.in-len1-up.len_at_least)
    (λ inside. false≢true (sym c.if-not-is_inside.true ∙ c.is_inside.ensures.1 inside)) c.loop-rest.invariant

pub returns : goal.returns
returns c = backed_nothing c.args.text.now c.loop-rest.rest.now c.requires c.loop-rest.invariant (nothing_below c.loop-rest.rest.now c.in_default.len_below)
