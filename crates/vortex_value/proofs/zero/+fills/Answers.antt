use Rattle.std.proofs.Common.{suc, add-one, drop, sym, ap, ◌∙◌}
use Rattle.std.specs.Option.{is_some}
use Rattle.vortex_dtype.specs.TypeOf.{type_of, dtype_trees}
use Rattle.vortex_value.specs.Zero.{filling, fillings}
use Rattle.vortex_value.proofs.FillingSteps.{fillings_at, rest_decides}
use Rattle.vortex_value.proofs.zero.+fills.Goals as goal

pub have_all_zero_or_default-loop-dtype-preserved : goal.have_all_zero_or_default-loop-dtype-preserved
have_all_zero_or_default-loop-dtype-preserved t c =
    let i = c.loop-dtype.dtype-index in
    let ts = c.args.dtypes.now in
    let d = c.dtype-item.result in
    rw add-one (rest_decides (filling c.args.nulls (type_of d)) (fillings c.args.nulls (dtype_trees (drop (suc i) ts))) _
    (sym c.has_zero_or_default.ensures ∙ c.if-not-has_zero_or_default.false)
    (sym (ap is_some (fillings_at c.args.nulls i ts d c.loop-dtype-test.true c.dtype-item.is)) ∙ c.loop-dtype.invariant))
