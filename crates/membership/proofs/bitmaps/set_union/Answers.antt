use Rattle.std.proofs.Common.{◌≡◌, arith, rules, length}
use Rattle.membership.proofs.Contained.{union-from}
use Rattle.membership.proofs.bitmaps.set_union.Goals as goal

pub returns : goal.returns
returns c =
    let same : length c.loop-i.filter ≡ length c.args.filter.now = search rules in
    union-from c.loop-i.filter c.args.filter.now c.args.other.now same c.requires (λ k l. c.loop-i.invariant.0 k (omega arith))
