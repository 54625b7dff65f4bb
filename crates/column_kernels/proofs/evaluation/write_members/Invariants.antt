-- What the literals so far say together.
use Rattle.std.proofs.Common.{take}
use Rattle.column_kernels.proofs.EvaluationSteps.{AreMembers}
use Rattle.column_kernels.proofs.evaluation.write_members.Given as goal

abbrev pub invariant-loop-literal : goal.invariant-loop-literal
invariant-loop-literal l = AreMembers l.rows l.from l.count (take l.literal-index l.literals) l.words
