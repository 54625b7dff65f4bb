-- The keys of each kind of type.
use Rattle.std.proofs.Common.{◌≡◌, ap, ◌∙◌}
use Rattle.vortex_dtype.specs.Lemmas.TypeLevels.{type_of-Primitive, type_of-Utf8}
use Rattle.vortex_dtype.specs.TypeOf.{type_of}
use Rattle.vortex_dtype.specs.TypeTree.{integer_type, utf8_type}
use Rattle.vortex_value.specs.Values.RawOf.{raw_of}
use Rattle.vortex_row.proofs.ValueSteps.{arm}
use Rattle.vortex_row.proofs.decode.values.read_into.Goals as goal

pub returns-in-Primitive : goal.returns-in-Primitive
returns-in-Primitive c =
    let e : type_of c.args.dtype.now ≡ integer_type c.in-Primitive.ptype c.in-Primitive.field-1 = ap type_of c.in-Primitive.is ∙ type_of-Primitive c.in-Primitive.ptype c.in-Primitive.field-1 in
    arm _ _ (λ u. raw_of c.put_number.new.place) _ _ _ e c.put_number.ensures

pub returns-in-Utf8 : goal.returns-in-Utf8
returns-in-Utf8 c =
    let e : type_of c.args.dtype.now ≡ utf8_type c.in-Utf8.field-0 = ap type_of c.in-Utf8.is ∙ type_of-Utf8 c.in-Utf8.field-0 in
    arm _ _ (λ u. raw_of c.put_text.new.place) _ _ _ e c.put_text.ensures
