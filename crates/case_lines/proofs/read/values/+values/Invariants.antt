-- Each bracket that opens leaves room for one fewer.
use Rattle.std.proofs.Common.{◌+◌, ◌*◌}
use Rattle.case_lines.proofs.read.values.+values.Given as goal

abbrev pub decreases-value_within : goal.decreases-value_within
decreases-value_within l = 3 * l.room

abbrev pub decreases-read_parts : goal.decreases-read_parts
decreases-read_parts l = 3 * l.room + 2

abbrev pub decreases-read_tuple : goal.decreases-read_tuple
decreases-read_tuple l = 3 * l.room + 1

abbrev pub decreases-scalar_within : goal.decreases-scalar_within
decreases-scalar_within l = 3 * l.room + 1
