use Rattle.vortex_filter.proofs.StandingLaws.{comparisons_stand, nulls_are_unknown}
use Rattle.vortex_filter.proofs.laws.comparisons_stand.Goals as goal

pub returns : goal.returns
returns c = record { values = comparisons_stand; nulls = nulls_are_unknown }
