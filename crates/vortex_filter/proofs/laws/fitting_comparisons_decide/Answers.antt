use Rattle.vortex_filter.proofs.FitProofs.{unknown_for_nulls, unknown_without_order}
use Rattle.vortex_filter.proofs.laws.fitting_comparisons_decide.Goals as goal

pub returns : goal.returns
returns c = record { without_order = unknown_without_order; for_nulls = unknown_for_nulls }
