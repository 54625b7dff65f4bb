-- Each bracket that opens leaves room for one fewer.
use Rattle.std.proofs.Common.{◌+◌, ◌*◌}
use Rattle.case_lines.proofs.read.types.+types.Given as goal

abbrev pub decreases-type_within : goal.decreases-type_within
decreases-type_within l = 3 * l.room

abbrev pub decreases-read_parts : goal.decreases-read_parts
decreases-read_parts l = 3 * l.room + 2

abbrev pub decreases-fields_within : goal.decreases-fields_within
decreases-fields_within l = 3 * l.room + 1
