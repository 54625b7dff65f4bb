-- Each call goes down the filter.
use Rattle.std.proofs.Common.{◌+◌, ◌*◌, max}
use Rattle.vortex_filter.specs.declared.filter.Filter.{size-Filter}
use Rattle.filter_sql.proofs.print.+sql.Given as goal

abbrev pub decreases-write_filter : goal.decreases-write_filter
decreases-write_filter g l = 3 * goal.size-write_filter g l

abbrev pub decreases-write_and : goal.decreases-write_and
decreases-write_and g l = 3 * max (goal.size-write_and g l) (size-Filter l.right.now) + 1

abbrev pub decreases-write_or : goal.decreases-write_or
decreases-write_or g l = 3 * max (goal.size-write_or g l) (size-Filter l.right.now) + 1

abbrev pub decreases-write_not : goal.decreases-write_not
decreases-write_not g l = 3 * goal.size-write_not g l + 2

abbrev pub decreases-write_denial : goal.decreases-write_denial
decreases-write_denial g l = 3 * goal.size-write_denial g l + 1
