use Rattle.vortex_filter.proofs.FitProofs.{compares_contents}
use Rattle.vortex_filter.proofs.laws.fitting_filters_compare_contents.Goals as goal

pub returns : goal.returns
returns c = compares_contents c.nullable_is_the_same.ensures.1
