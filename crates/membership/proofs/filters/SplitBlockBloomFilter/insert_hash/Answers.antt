use Rattle.std.proofs.Common.{◌≡◌, ◌∙◌, ◌++◌, ap, arith, subst, List, ℕ, drop, length, take}
use Rattle.std.proofs.lemmas.Grind.{common_steps}
use Rattle.membership.specs.BloomFilters.{IsFilterLength, may_contain, with_hash}
use Rattle.membership.proofs.Contained.{inserted, kept}
use Rattle.membership.proofs.filters.SplitBlockBloomFilter.insert_hash.Goals as goal

pub returns-clause-inserted : goal.returns-clause-inserted
returns-clause-inserted c =
    let now = take c.self.inside.bytes.len (c.set_bits.new.filter ++ drop (length c.set_bits.new.filter) c.self.inside.bytes.items) in
    let is : now ≡ with_hash c.args.self.now c.args.hash = grind (arith, common_steps) in
    let P : List ℕ → Type 0 = λ filter. IsFilterLength (length filter) in
    ap (λ filter. may_contain filter c.args.hash) is ∙ inserted c.args.self.now c.args.hash (subst P c.self.view_is c.self.invariant) c.ranges.hash.fits

pub returns-clause-kept : goal.returns-clause-kept
returns-clause-kept c =
    let now = take c.self.inside.bytes.len (c.set_bits.new.filter ++ drop (length c.set_bits.new.filter) c.self.inside.bytes.items) in
    let is : now ≡ with_hash c.args.self.now c.args.hash = grind (arith, common_steps) in
    let P : List ℕ → Type 0 = λ filter. IsFilterLength (length filter) in
    λ other h. ap (λ filter. may_contain filter other) is ∙ kept c.args.self.now c.args.hash other (subst P c.self.view_is c.self.invariant) c.ranges.hash.fits h
