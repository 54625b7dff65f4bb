use Rattle.std.proofs.Common.{◌≡◌, ◌∙◌, sym, ap, subst, List, ℕ, drop}
use Rattle.membership.specs.Xxh64.{after_stripes, converged, initial, with_stripes}
use Rattle.membership.proofs.Stripes.{after-no-stripe, left-whole, no-stripe, of-none, of-some, stripe-passed, stripe-taken}
use Rattle.membership.proofs.hashing.hash_stripes.Goals as goal

pub loop-rest-preserved : goal.loop-rest-preserved
loop-rest-preserved c =
    let rest = c.loop-rest.rest.now in
    let words = c.args.words.now in
    let P : List (List ℕ) → Type 0 = λ left. (with_stripes c.add_stripe.new.accumulators left ≡ with_stripes initial words) × (after_stripes left ≡ after_stripes words) in
    subst P (sym (left-whole rest)) (
      ap (λ v. with_stripes v (drop 4 rest)) c.add_stripe.ensures ∙ sym (stripe-taken c.loop-rest.accumulators rest _ _ _ _ c.in-len4-up.len_at_least) ∙ c.loop-rest.invariant.0,
      sym (stripe-passed rest c.in-len4-up.len_at_least) ∙ c.loop-rest.invariant.1,
    )

pub returns-then-words-lt4-clause-hash : goal.returns-then-words-lt4-clause-hash
returns-then-words-lt4-clause-hash c = sym (of-none c.args.words.now c.if-words-lt4.true)

pub returns-then-words-lt4-clause-rest : goal.returns-then-words-lt4-clause-rest
returns-then-words-lt4-clause-rest c = sym (after-no-stripe c.loop-rest.rest.now c.in_default.len_below) ∙ c.loop-rest.invariant.1

pub returns-else-words-lt4-clause-hash : goal.returns-else-words-lt4-clause-hash
returns-else-words-lt4-clause-hash c =
    c.converged.ensures
    ∙ ap converged (sym (no-stripe c.loop-rest.accumulators c.loop-rest.rest.now c.in_default.len_below) ∙ c.loop-rest.invariant.0)
    ∙ sym (of-some c.args.words.now c.if-words-lt4.false)

pub returns-else-words-lt4-clause-rest : goal.returns-else-words-lt4-clause-rest
returns-else-words-lt4-clause-rest c = sym (after-no-stripe c.loop-rest.rest.now c.in_default.len_below) ∙ c.loop-rest.invariant.1
