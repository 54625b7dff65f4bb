-- The literals so far are of no logical type.
use Rattle.filter_sql.proofs.WordLaws.{any_logical-here, any_logical-rest}
use Rattle.filter_sql.proofs.literal_words.any_logical.Goals as goal

pub returns-then-is_logical : goal.returns-then-is_logical
returns-then-is_logical c =
    any_logical-here c.loop-literal.literal-index c.args.literals.now c.literal-item.result _ _ c.loop-literal-test.true c.literal-item.is c.is_logical.ensures c.if-is_logical.true c.loop-literal.invariant

pub loop-literal-preserved : goal.loop-literal-preserved
loop-literal-preserved c =
    any_logical-rest c.loop-literal.literal-index c.args.literals.now c.literal-item.result _ _ c.loop-literal-test.true c.literal-item.is c.is_logical.ensures c.if-is_logical.false c.loop-literal.invariant
