-- The comparison of the filter that is made.
use Rattle.std.proofs.Common.{map}
use Rattle.vortex_dtype.specs.TypeOf.{type_of}
use Rattle.vortex_cells.specs.Cells.{cell_of}
use Rattle.law_callers.proofs.FilterSteps.{fits_compared, for_nulls_compared, value_compared, without_order_compared}
use Rattle.law_callers.proofs.filter_laws.compare.Goals as goal

pub returns : goal.returns
returns c =
    let columns = map type_of c.args.columns.now in
    let row = map cell_of c.args.row.now in
    let k = c.args.column in
    let op = c.args.operator in
    let x = c.args.literal in
    let r = c.truth_if_fit-truth.result in
    let fits = c.truth_if_fit-truth.ensures.fits in
    let value = c.truth_if_fit-truth.ensures.value in
    record {
      fits = fits_compared columns row k op x r fits;
      value = value_compared columns row k op x r value;
      without_order = without_order_compared columns row k op x r c.fitting_comparisons_decide.ensures.without_order c.requires.row fits value;
      for_nulls = for_nulls_compared columns row k op x r c.fitting_comparisons_decide.ensures.for_nulls c.requires.row fits value;
    }
