-- Too few bytes are left, the wanted ones stand there, others do, and the first is nowhere.
use Rattle.std.proofs.Common.{None, Some, ℕ, ◌+◌, ◌-◌, ◌∙◌, ap, arith, drop, get_or, length, refl, sym, take}
use Rattle.std.proofs.lemmas.Bool.{false≢true}
use Rattle.std.proofs.lemmas.List.{take_rest}
use Rattle.like_patterns.proofs.InsensitiveSearch.{not_before_next, not_before_step, not_behind, not_within, searched, stands_at}
use Rattle.like_patterns.proofs.searching.find_insensitive.Goals as goal

pub returns-then-text-place : goal.returns-then-text-place
returns-then-text-place c =
    let text = c.args.text.now in
    let wanted = c.args.wanted.now in
    let place = c.loop-step.place in
    let first = get_or wanted 0 0 in
    let finds = searched _ _ first place text _ (Some c.in-Some.step) c.to_ascii_lowercase-lower.ensures.value c.to_ascii_uppercase-upper.ensures.value (take_rest text place) c.in-Some.ensures in
    not_within text wanted (place + c.in-Some.step) c.if-text-place.true
    (not_before_step text wanted first place c.in-Some.step (omega (arith, c.in-len1-up.len_at_least)) refl c.loop-step.invariant finds)

pub returns-then-eq_ignore_ascii_case : goal.returns-then-eq_ignore_ascii_case
returns-then-eq_ignore_ascii_case c =
    let text = c.args.text.now in
    let wanted = c.args.wanted.now in
    let place = c.loop-step.place in
    let at = place + c.in-Some.step in
    let first = get_or wanted 0 0 in
    let finds = searched _ _ first place text _ (Some c.in-Some.step) c.to_ascii_lowercase-lower.ensures.value c.to_ascii_uppercase-upper.ensures.value (take_rest text place) c.in-Some.ensures in
    let here = not_before_step text wanted first place c.in-Some.step (omega (arith, c.in-len1-up.len_at_least)) refl c.loop-step.invariant finds in
    stands_at text wanted (take (at + length wanted - at) (drop at text)) at c.if-text-place.false here.within (ap (λ (n : ℕ). take n (drop at text)) (omega arith))
    (c.eq_ignore_ascii_case.ensures.test.0 c.if-eq_ignore_ascii_case.true) here

pub loop-step-preserved : goal.loop-step-preserved
loop-step-preserved c =
    let text = c.args.text.now in
    let wanted = c.args.wanted.now in
    let place = c.loop-step.place in
    let at = place + c.in-Some.step in
    let first = get_or wanted 0 0 in
    let some = c.in-len1-up.len_at_least in
    let finds = searched _ _ first place text _ (Some c.in-Some.step) c.to_ascii_lowercase-lower.ensures.value c.to_ascii_uppercase-upper.ensures.value (take_rest text place) c.in-Some.ensures in
    let here = not_before_step text wanted first place c.in-Some.step (omega (arith, some)) refl c.loop-step.invariant finds in
    not_before_next text wanted (take (at + length wanted - at) (drop at text)) at (omega (arith, some)) c.if-text-place.false (ap (λ (n : ℕ). take n (drop at text)) (omega arith))
    (λ same. false≢true (sym c.if-eq_ignore_ascii_case.false ∙ c.eq_ignore_ascii_case.ensures.test.1 same)) here

pub returns : goal.returns
returns c =
    let text = c.args.text.now in
    let wanted = c.args.wanted.now in
    let place = c.loop-step.place in
    let first = get_or wanted 0 0 in
    not_behind text wanted first place (omega (arith, c.in-len1-up.len_at_least)) refl c.loop-step.invariant
    (searched _ _ first place text _ None c.to_ascii_lowercase-lower.ensures.value c.to_ascii_uppercase-upper.ensures.value (take_rest text place) c.in_default-memchr2.ensures)
