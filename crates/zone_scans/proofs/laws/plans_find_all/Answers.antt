use Rattle.zone_scans.proofs.LawSteps.{all_found}
use Rattle.zone_scans.proofs.laws.plans_find_all.Goals as goal

pub returns : goal.returns
returns g c = all_found (g.M.Records.delimiter c.args.matcher.now) (g.M.Records.has_row c.args.matcher.now) (g.M.Matcher.matches c.args.matcher.now) (g.M.Records.Describes c.args.matcher.now) (g.M.Matcher.decides c.args.matcher.now)
