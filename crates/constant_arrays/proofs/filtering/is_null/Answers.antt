use Rattle.std.proofs.Common.{sym, ◌∙◌}
use Rattle.vortex_filter.proofs.Cells.{null_is}
use Rattle.constant_arrays.proofs.filtering.is_null.Goals as goal

pub returns : goal.returns
returns c = c.is_null.ensures ∙ sym (null_is c.args.scalar.now)
