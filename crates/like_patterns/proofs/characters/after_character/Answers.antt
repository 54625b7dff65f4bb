-- The first byte, one more, and what begins another character, or nothing.
use Rattle.std.proofs.Common.{◌-◌, ◌∙◌, arith, drop, get_or, length, sym, take}
use Rattle.std.proofs.lemmas.Bool.{false≢true}
use Rattle.std.proofs.lemmas.List.{take_rest}
use Rattle.like_patterns.proofs.OneCharacter.{first_byte, skipped_all, skipped_first, skipped_more}
use Rattle.like_patterns.proofs.characters.after_character.Goals as goal

pub loop-rest-init : goal.loop-rest-init
loop-rest-init c =
    let text = c.args.text.now in
    skipped_first text (take (length text - 1) (drop 1 text)) (omega (arith, c.in-len1-up.len_at_least)) (take_rest text 1)

pub returns-then-not-is_inside-clause-rest : goal.returns-then-not-is_inside-clause-rest
returns-then-not-is_inside-clause-rest c =
    skipped_all c.args.text.now c.loop-rest.rest.now c.requires c.loop-rest.invariant (λ some inside. false≢true (sym c.if-not-is_inside.true ∙ c.is_inside.ensures.1 inside))

pub loop-rest-preserved : goal.loop-rest-preserved
loop-rest-preserved c =
    let rest = c.loop-rest.rest.now in
    skipped_more c.args.text.now rest (take (length rest - 1) (drop 1 rest)) (get_or rest 0 0) (first_byte rest c.in-len1-up-rest.len_at_least) (c.is_inside.ensures.0 c.if-not-is_inside.false) c.loop-rest.invariant

pub returns-clause-rest : goal.returns-clause-rest
returns-clause-rest c =
    skipped_all c.args.text.now c.loop-rest.rest.now c.requires c.loop-rest.invariant (λ some. absurd (omega (arith, c.in_default-rest.len_below, some)))
