-- By the law, of the comparison that was made.
use Rattle.std.proofs.Common.{◌∙◌, ap, map}
use Rattle.vortex_cells.specs.Cells.{cell_of}
use Rattle.vortex_filter.specs.Formula.{Formula, truth}
use Rattle.vortex_filter.specs.Positions.{position_tree}
use Rattle.law_callers.proofs.literal_places.compare_with_literal.Goals as goal

pub returns : goal.returns
returns c =
    let row = map cell_of c.args.row.now in
    let said = c.truth-truth.ensures ∙ ap (λ (f : Formula). truth f row) c.in_ok-filter.ensures.made in record {
      value = λ t o stands same value at. said ∙ c.comparisons_stand.ensures.values t c.args.column c.args.operator (position_tree c.args.literal) row o stands same value at;
      null = λ is. said ∙ c.comparisons_stand.ensures.nulls c.args.column c.args.operator (position_tree c.args.literal) row is;
    }
