use Rattle.std.proofs.Common.{◌≡◌, ◌∙◌, ap, rules}
use Rattle.membership.specs.BloomFilters.{empty_filter, may_contain}
use Rattle.membership.proofs.Contained.{contains-nothing}
use Rattle.membership.proofs.filters.SplitBlockBloomFilter.new.Goals as goal

pub returns-clause-nothing : goal.returns-clause-nothing
returns-clause-nothing c =
    let is : c.in_ok-bytes.bytes.items ≡ empty_filter c.args.blocks = search rules in
    λ hash. ap (λ filter. may_contain filter hash) is ∙ contains-nothing c.args.blocks hash
