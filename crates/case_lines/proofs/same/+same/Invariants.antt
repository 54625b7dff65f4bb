use Rattle.std.proofs.Common.{◌+◌, ◌*◌}
use Rattle.case_lines.proofs.Lent.{lent_size}
use Rattle.case_lines.proofs.same.+same.Given as goal

abbrev pub decreases-same_value : goal.decreases-same_value
decreases-same_value l = 3 * goal.size-same_value l

abbrev pub decreases-same_raw : goal.decreases-same_raw
decreases-same_raw l = 3 * lent_size l.a + 1

abbrev pub decreases-same_parts : goal.decreases-same_parts
decreases-same_parts l = 3 * goal.size-same_parts l + 2

abbrev pub decreases-same_union : goal.decreases-same_union
decreases-same_union l = 3 * goal.size-same_union l + 1

abbrev pub decreases-same_scalar : goal.decreases-same_scalar
decreases-same_scalar l = 3 * goal.size-same_scalar l + 1
