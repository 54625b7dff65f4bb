use Rattle.std.proofs.Common.{◌<◌, length, map, subst, sym, arith}
use Rattle.vortex_dtype.specs.TypeOf.{type_of}
use Rattle.vortex_value.specs.Values.Scalars.{IsValid}
use Rattle.vortex_cells.specs.Cells.{cell_of}
use Rattle.vortex_filter.proofs.CoerceSteps.{holds_at, item_refused, kept_step, kept_whole, passed_literals}
use Rattle.vortex_filter.proofs.LiteralSteps.{valid_at, valid_with}
use Rattle.vortex_filter.proofs.coerce.kept_literals.Goals as goal

pub loop-literal-preserved : goal.loop-literal-preserved
loop-literal-preserved c =
    let stands = c.in_ok-position.ensures.made in
    let before : c.loop-literal.literal-index < length c.args.literals.now = omega arith in (
      kept_step (type_of c.args.dtype.now) c.args.literals.now c.loop-literal.literal-index c.literal-item.result c.in_ok-position.position (map cell_of c.loop-literal.kept.items) (map cell_of c.in_ok-kept-2.kept.items) before c.literal-item.is c.loop-literal.invariant.0 stands c.in_ok-kept-2.ensures.made,
      λ v. valid_with _ _ _ c.in_ok-kept-2.ensures.literals (c.loop-literal.invariant.1 v) (valid_at c.in_ok-position.position (stands.2 (subst IsValid (sym c.literal-item.is) (holds_at IsValid c.args.literals.now c.loop-literal.literal-index c.literal-item.result before v)))),
    )

pub returns-in_err-position : goal.returns-in_err-position
returns-in_err-position c =
    passed_literals (type_of c.args.dtype.now) c.args.column c.args.literals.now c.from_residual-in_err-position.result c.in_err-position.field-0.0 c.from_residual-in_err-position.ensures.1
    (item_refused (type_of c.args.dtype.now) c.args.column c.args.literals.now c.loop-literal.literal-index c.literal-item.result c.in_err-position.field-0.0 (omega arith) c.literal-item.is c.in_err-position.ensures.made)

pub returns : goal.returns
returns c =
    let whole = kept_whole (type_of c.args.dtype.now) c.args.literals.now c.loop-literal.literal-index (map cell_of c.loop-literal.kept.items) (omega arith) c.loop-literal.invariant.0 in
    (whole.0, whole.1, c.loop-literal.invariant.1)
