use Rattle.std.proofs.Common.{◌-◌, arith}
use Rattle.std.proofs.lemmas.Grind.{common_steps}
use Rattle.vortex_bounds.proofs.NextString.{next_string_full, next_string_raised}
use Rattle.vortex_bounds.proofs.increment_bytes.increment_bytes.Goals as goal

pub returns-then-bytes-i-lt255 : goal.returns-then-bytes-i-lt255
returns-then-bytes-i-lt255 c = next_string_raised _ _ (c.loop-i.i - 1) (record {
  inside = omega arith;
  exact = grind (arith, common_steps);
  same = λ k l. grind (arith, common_steps, c.loop-i.invariant.same k);
  more = grind (arith, common_steps, c.loop-i.invariant.same (c.loop-i.i - 1));
  room = grind (arith, common_steps, c.loop-i.invariant.same (c.loop-i.i - 1));
  zeros_after = λ k l m. grind (arith, common_steps, c.loop-i.invariant.zeros_from k);
  full_after = λ k l m. c.loop-i.invariant.full_from k (omega arith) (omega arith);
})

pub returns : goal.returns
returns c = next_string_full _ (λ k l. c.loop-i.invariant.full_from k (omega arith) (omega arith))
