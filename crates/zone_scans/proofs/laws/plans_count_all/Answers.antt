use Rattle.zone_scans.proofs.LawSteps.{all_counted}
use Rattle.zone_scans.proofs.laws.plans_count_all.Goals as goal

pub returns : goal.returns
returns g c = all_counted (g.M.Records.delimiter c.args.matcher.now) (g.M.Records.has_row c.args.matcher.now) (g.M.Matcher.matches c.args.matcher.now) (g.M.Records.Describes c.args.matcher.now) (g.M.Matcher.decides c.args.matcher.now)
