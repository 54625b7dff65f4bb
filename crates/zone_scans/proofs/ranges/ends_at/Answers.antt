-- Where the last one ends.
use Rattle.std.proofs.Common.{◌-◌, arith, length}
use Rattle.zone_scans.proofs.RangeSteps.{end_last, last_end}
use Rattle.zone_scans.proofs.ranges.ends_at.Goals as goal

pub returns-in-len1-up-clause-yes : goal.returns-in-len1-up-clause-yes
returns-in-len1-up-clause-yes c = λ so. end_last c.args.ranges.now (length c.args.ranges.now - 1) _ c.args.place (omega (arith, c.in-len1-up.len_at_least)) (c.ends_at.ensures.yes so)

pub returns-in-len1-up-clause-no : goal.returns-in-len1-up-clause-no
returns-in-len1-up-clause-no c = λ so ends. c.ends_at.ensures.no so (last_end c.args.ranges.now (length c.args.ranges.now - 1) _ c.args.place (omega (arith, c.in-len1-up.len_at_least)) ends)
