-- How deep what is left may nest, and then the operator that binds loosest.
use Rattle.std.proofs.Common.{◌+◌, ◌*◌}
use Rattle.filter_sql.proofs.parsing.filters.+filters.Given as goal

abbrev pub decreases-disjunction : goal.decreases-disjunction
decreases-disjunction l = 3 * l.depth + 2

abbrev pub decreases-conjunction : goal.decreases-conjunction
decreases-conjunction l = 3 * l.depth + 1

abbrev pub decreases-operand : goal.decreases-operand
decreases-operand l = 3 * l.depth
