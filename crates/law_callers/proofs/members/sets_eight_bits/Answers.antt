-- By the law, at a filter's length.
use Rattle.std.proofs.Common.{◌≡◌, ◌∙◌, ap, subst, List, ℕ, length, rules}
use Rattle.membership.specs.BloomFilters.{IsFilterLength, is_set}
use Rattle.law_callers.proofs.members.sets_eight_bits.Goals as goal

pub returns : goal.returns
returns c =
    let P : List ℕ → Type 0 = λ filter. IsFilterLength (length filter) in
    let is : c.as_bytes-bytes.result.now ≡ c.args.filter.now = search rules in
    λ i. ap (λ filter. is_set filter i) c.insert_hash.ensures.filter ∙ c.bits_are_those_of_hashes.ensures c.args.filter.now c.args.hash i (subst P is c.as_bytes-bytes.ensures.length) c.ranges.hash.fits
