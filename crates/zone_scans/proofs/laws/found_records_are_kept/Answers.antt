use Rattle.zone_scans.proofs.LawSteps.{all_kept}
use Rattle.zone_scans.proofs.laws.found_records_are_kept.Goals as goal

pub returns : goal.returns
returns c = all_kept
