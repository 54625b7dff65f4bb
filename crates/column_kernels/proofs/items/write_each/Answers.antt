use Rattle.std.proofs.Common.{◌∙◌, Some, ap}
use Rattle.column_kernels.proofs.items.write_each.Goals as goal

pub returns-clause-truth : goal.returns-clause-truth
returns-clause-truth g c = λ row below. let h = c.write_rows.ensures.rows row below in h.2 ∙ ap Some h.1
