-- How deep what is left may nest.
use Rattle.std.proofs.Common.{◌+◌, ◌*◌}
use Rattle.filter_encoding.proofs.reading.+filters.Given as goal

abbrev pub decreases-read_node : goal.decreases-read_node
decreases-read_node l = 3 * l.depth

abbrev pub decreases-read_part : goal.decreases-read_part
decreases-read_part l = 3 * l.depth + 1

abbrev pub decreases-read_parts : goal.decreases-read_parts
decreases-read_parts l = 3 * l.depth + 2
