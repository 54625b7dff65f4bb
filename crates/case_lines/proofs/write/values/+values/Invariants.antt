use Rattle.std.proofs.Common.{◌+◌, ◌*◌}
use Rattle.case_lines.proofs.Lent.{lent_size}
use Rattle.case_lines.proofs.write.values.+values.Given as goal

abbrev pub decreases-write_value : goal.decreases-write_value
decreases-write_value l = 4 * goal.size-write_value l

abbrev pub decreases-write_raw : goal.decreases-write_raw
decreases-write_raw l = 4 * lent_size l.value + 1

abbrev pub decreases-write_tuple : goal.decreases-write_tuple
decreases-write_tuple l = 4 * goal.size-write_tuple l + 2

abbrev pub decreases-write_union : goal.decreases-write_union
decreases-write_union l = 4 * goal.size-write_union l + 1

abbrev pub decreases-write_variant : goal.decreases-write_variant
decreases-write_variant l = 4 * goal.size-write_variant l + 2

abbrev pub decreases-write_scalar : goal.decreases-write_scalar
decreases-write_scalar l = 4 * goal.size-write_scalar l + 1
