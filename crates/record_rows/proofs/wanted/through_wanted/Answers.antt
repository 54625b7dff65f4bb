-- The last one is not wanted.
use Rattle.std.proofs.Common.{arith, rules}
use Rattle.record_rows.proofs.Wanting.{fewer}
use Rattle.record_rows.proofs.wanted.through_wanted.Goals as goal

pub loop-count-preserved : goal.loop-count-preserved
loop-count-preserved c = record {
  few = omega (arith, c.loop-count.invariant.few);
  past = λ k wants below. fewer c.args.wanted.now k c.loop-count.count c.is_wanted.result (search rules) c.is_wanted.ensures c.if-is_wanted.false wants (c.loop-count.invariant.past k wants below);
}
