-- A null, a number or a text.
use Rattle.std.proofs.Common.{◌≡◌, ap, ◌∙◌}
use Rattle.vortex_dtype.specs.Lemmas.TypeLevels.{type_of-Primitive, type_of-Utf8}
use Rattle.vortex_dtype.specs.TypeOf.{type_of}
use Rattle.vortex_dtype.specs.TypeTree.{integer_type, utf8_type}
use Rattle.vortex_row.proofs.InhabitedSteps.{number-there, text-there}
use Rattle.vortex_row.proofs.RefusalSteps.{kind-refused, told-on}
use Rattle.vortex_row.proofs.decode.values.push_leaf.Goals as goal

pub returns-in_err-push_number-in-Primitive-clause-refused : goal.returns-in_err-push_number-in-Primitive-clause-refused
returns-in_err-push_number-in-Primitive-clause-refused c =
    let e : type_of c.args.dtype.now ≡ integer_type c.in-Primitive.ptype c.in-Primitive.field-1 = ap type_of c.in-Primitive.is ∙ type_of-Primitive c.in-Primitive.ptype c.in-Primitive.field-1 in
    told-on _ _ _ _ _ c.from_residual-in_err-push_number-in-Primitive.ensures (kind-refused (type_of c.args.dtype.now) (integer_type c.in-Primitive.ptype c.in-Primitive.field-1) _ _ _ _ e (number-there c.args.dtype.now c.in-Primitive.ptype c.in-Primitive.field-1 c.in-Primitive.is) (c.takes_null.ensures.unchanged c.if-takes_null.false) (c.takes_null.ensures.other c.if-takes_null.false) c.in_err-push_number-in-Primitive.ensures)

pub returns-in_err-push_text-in-Utf8-clause-refused : goal.returns-in_err-push_text-in-Utf8-clause-refused
returns-in_err-push_text-in-Utf8-clause-refused c =
    let e : type_of c.args.dtype.now ≡ utf8_type c.in-Utf8.field-0 = ap type_of c.in-Utf8.is ∙ type_of-Utf8 c.in-Utf8.field-0 in
    told-on _ _ _ _ _ c.from_residual-in_err-push_text-in-Utf8.ensures (kind-refused (type_of c.args.dtype.now) (utf8_type c.in-Utf8.field-0) _ _ _ _ e (text-there c.args.dtype.now c.in-Utf8.field-0 c.in-Utf8.is) (c.takes_null.ensures.unchanged c.if-takes_null.false) (c.takes_null.ensures.other c.if-takes_null.false) c.in_err-push_text-in-Utf8.ensures)
