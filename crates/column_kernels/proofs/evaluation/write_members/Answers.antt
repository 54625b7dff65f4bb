-- All literals at once, or one more, or none, once each row is equal to one.
use Rattle.std.proofs.Common.{◌*◌, arith, length, refl}
use Rattle.arrow_columns.proofs.SpanSteps.{on_true}
use Rattle.column_kernels.proofs.EvaluationSteps.{AreMembers, members-decided, members-more}
use Rattle.column_kernels.proofs.evaluation.write_members.Goals as goal

pub returns-then-write_listed-clause-truth : goal.returns-then-write_listed-clause-truth
returns-then-write_listed-clause-truth c =
    on_true c.write_listed.result (AreMembers c.args.rows.now c.args.from c.args.count c.args.literals.now c.write_listed.new.words) c.write_listed.ensures.truth c.if-write_listed.true

pub loop-literal-preserved : goal.loop-literal-preserved
loop-literal-preserved c =
    members-more c.args.rows.now c.args.from c.args.count c.loop-literal.literal-index c.args.literals.now c.literal-item.result c.loop-literal.words c.or_equal.new.words (omega arith) c.literal-item.is
    c.loop-literal.invariant c.or_equal.ensures.truth

pub returns-then-are_all_true-clause-truth : goal.returns-then-are_all_true-clause-truth
returns-then-are_all_true-clause-truth c =
    members-decided c.args.rows.now c.args.from c.args.count c.loop-literal.literal-index (64 * length c.or_equal.new.words) c.args.literals.now c.literal-item.result c.loop-literal.words c.or_equal.new.words (omega arith) c.literal-item.is
    c.loop-literal.invariant c.or_equal.ensures.truth (omega arith) (c.if-are_all_true.ensures.0 refl)
