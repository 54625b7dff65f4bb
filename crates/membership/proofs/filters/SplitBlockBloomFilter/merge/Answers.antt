use Rattle.std.proofs.Common.{◌≡◌, ◌∙◌, ◌++◌, ap, arith, rules, drop, length, take}
use Rattle.std.proofs.lemmas.Grind.{common_steps}
use Rattle.membership.specs.BloomFilters.{may_contain, union}
use Rattle.membership.proofs.Contained.{union-left, union-right}
use Rattle.membership.proofs.filters.SplitBlockBloomFilter.merge.Goals as goal

pub returns-clause-kept : goal.returns-clause-kept
returns-clause-kept c =
    let now = take c.self.inside.bytes.len (c.set_union.new.filter ++ drop (length c.set_union.new.filter) c.self.inside.bytes.items) in
    let is : now ≡ union c.args.self.now c.args.other.now = grind (arith, common_steps) in
    let e : length c.args.self.now ≡ length c.args.other.now = search rules in
    λ hash h. ap (λ filter. may_contain filter hash) is ∙ union-left c.args.self.now c.args.other.now hash e h

pub returns-clause-merged : goal.returns-clause-merged
returns-clause-merged c =
    let now = take c.self.inside.bytes.len (c.set_union.new.filter ++ drop (length c.set_union.new.filter) c.self.inside.bytes.items) in
    let is : now ≡ union c.args.self.now c.args.other.now = grind (arith, common_steps) in
    let e : length c.args.self.now ≡ length c.args.other.now = search rules in
    λ hash h. ap (λ filter. may_contain filter hash) is ∙ union-right c.args.self.now c.args.other.now hash e h
