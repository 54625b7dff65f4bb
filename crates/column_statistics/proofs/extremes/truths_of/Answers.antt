use Rattle.column_statistics.proofs.KindLaws.{truths_both, truths_false, truths_true}
use Rattle.std.proofs.Common.{arith}
use Rattle.column_statistics.proofs.extremes.truths_of.Goals as goal

pub returns-in-0-default : goal.returns-in-0-default
returns-in-0-default c = λ cells h. truths_true cells c.args.statistics h (omega arith) (omega arith)

pub returns-in_default-eq0 : goal.returns-in_default-eq0
returns-in_default-eq0 c = λ cells h. truths_false cells c.args.statistics h (omega arith) (omega arith)

pub returns-in_default : goal.returns-in_default
returns-in_default c = λ cells h. truths_both cells c.args.statistics h (omega arith) (omega arith)
