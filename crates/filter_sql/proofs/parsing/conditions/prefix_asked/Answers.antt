-- The prefix of a pattern that is compared with case.
use Rattle.filter_sql.proofs.TestSteps.{prefix_given}
use Rattle.filter_sql.proofs.parsing.conditions.prefix_asked.Goals as goal

pub returns-in-Sensitive : goal.returns-in-Sensitive
returns-in-Sensitive c = prefix_given c.args.case c.args.pattern.now c.as_prefix.result c.in-Sensitive.is c.as_prefix.ensures
