-- Both truths are those by contents.
use Rattle.std.proofs.Common.{map, refl, sym, ◌∙◌}
use Rattle.vortex_dtype.specs.TypeOf.{type_of}
use Rattle.vortex_cells.specs.Cells.{cell_of}
use Rattle.vortex_filter.specs.Formula.{formula}
use Rattle.law_callers.proofs.FilterSteps.{same_truth}
use Rattle.law_callers.proofs.filter_laws.says_the_same.Goals as goal

pub returns-clause-contents : goal.returns-clause-contents
returns-clause-contents c = λ h.
    c.are_same.ensures.1
    (c.truth.ensures
    ∙ same_truth c.fitting_filters_compare_contents.ensures (map type_of c.args.columns.now) (formula c.args.filter.now) (map cell_of c.args.first.now) (map cell_of c.args.second.now) (c.in_ok-check.ensures.fits.0 refl) c.requires.first c.requires.second h
    ∙ sym c.truth-2.ensures)
