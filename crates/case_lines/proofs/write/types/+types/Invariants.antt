-- Each call has less room.
use Rattle.std.proofs.Common.{◌+◌, ◌*◌}
use Rattle.case_lines.proofs.write.types.+types.Given as goal

abbrev pub decreases-write_within : goal.decreases-write_within
decreases-write_within l = 2 * l.room

abbrev pub decreases-write_map : goal.decreases-write_map
decreases-write_map l = 2 * l.room + 1

abbrev pub decreases-write_fields : goal.decreases-write_fields
decreases-write_fields l = 2 * l.room + 1

abbrev pub decreases-write_variants : goal.decreases-write_variants
decreases-write_variants l = 2 * l.room + 1
