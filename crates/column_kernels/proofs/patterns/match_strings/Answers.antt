use Rattle.std.proofs.Common.{◌∙◌, ◌+◌, List, Some, ap, ℕ}
use Rattle.arrow_columns.specs.Columns.{offset_in}
use Rattle.arrow_columns.specs.Offsets.{bytes_between}
use Rattle.truth_bitmaps.specs.Truths.{truth_at}
use Rattle.vortex_filter.specs.PatternTests.{are_like}
use Rattle.column_kernels.proofs.CellSteps.{value-marked}
use Rattle.column_kernels.proofs.patterns.match_strings.Goals as goal

pub returns-clause-truth : goal.returns-clause-truth
returns-clause-truth c = λ row below.
    let column = c.args.rows.now.column in
    let value : ℕ → List ℕ = bytes_between column.values.now (offset_in c.args.rows.now.width column) in
    let h = c.write_rows.ensures.rows row below in
    value-marked (are_like c.args.case c.args.pattern.now) column.validity.now value (column.offset + (c.args.from + row)) (truth_at c.write_rows.new.words row) _ (c.mark_null_rows.ensures.truth row below) (h.2 ∙ ap Some h.1)
