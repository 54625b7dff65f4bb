use Rattle.std.proofs.Common.{sym, arith}
use Rattle.vortex_value.proofs.ValueSteps.{all_equal-lengths}
use Rattle.vortex_value.proofs.equality.+equality.Goals as goal

pub equal_tuples-returns-then-a-b : goal.equal_tuples-returns-then-a-b
equal_tuples-returns-then-a-b t c = sym (all_equal-lengths c.args.a.now c.args.b.now (omega arith))
