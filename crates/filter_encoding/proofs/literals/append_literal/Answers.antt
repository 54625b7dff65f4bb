-- The byte of the type, and the key.
use Rattle.std.proofs.Common.{ap, subst, sym}
use Rattle.vortex_dtype.specs.TypeOf.{type_of}
use Rattle.vortex_cells.specs.Cells.{cell_of}
use Rattle.filter_encoding.specs.Encoding.{IsPlain, IsPlainCell}
use Rattle.filter_encoding.proofs.TypeLaws.{plain_ordered}
use Rattle.filter_encoding.proofs.WriteSteps.{key_written, passed_on}
use Rattle.filter_encoding.proofs.literals.append_literal.Goals as goal

pub append_value-requires : goal.append_value-requires
append_value-requires c = plain_ordered _ (subst (λ d. IsPlain (type_of d)) c.dtype.ensures c.in_ok-append_type.ensures.0)

pub returns-in_err-append_type : goal.returns-in_err-append_type
returns-in_err-append_type c =
    let w = c.in_err-append_type.ensures in
    passed_on _ (IsPlain (type_of c.dtype.result.now)) (IsPlainCell (cell_of c.args.literal.now)) _ _ _ _ _ c.from_residual.ensures (λ h. subst (λ d. IsPlain (type_of d)) (sym c.dtype.ensures) h.plain) w.0 w.1

pub returns : goal.returns
returns c =
    key_written (cell_of c.args.literal.now) (type_of c.dtype.result.now) c.append_value.result _ _ _ (ap type_of (sym c.dtype.ensures)) c.in_ok-append_type.ensures c.append_value.ensures.appended c.append_value.ensures.held c.append_value.ensures.untyped c.append_value.ensures.refused (c.is_logically_valid.ensures.0 c.if-not-is_logically_valid.false) c.append_value.ensures.unchanged
