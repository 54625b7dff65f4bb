use Rattle.std.proofs.Common.{ap, map, option_map, sym, ◌∙◌}
use Rattle.vortex_dtype.specs.TypeOf.{fields_of, type_of}
use Rattle.vortex_value.specs.Values.RawOf.{raw_of}
use Rattle.vortex_views.specs.Parts.{ref_part}
use Rattle.vortex_views.proofs.FieldSteps.{zip-at, zip-past}
use Rattle.vortex_views.proofs.struct_.field_at.Goals as goal

pub returns : goal.returns
returns c =
    c.part_at.ensures
    ∙ sym (zip-at (fields_of c.args.fields.now).types (map raw_of c.args.values.now) c.args.place (type_of c.in_ok-dtype.dtype.now) (sym c.in_ok-dtype.ensures.tree))

pub returns-in_err-dtype : goal.returns-in_err-dtype
returns-in_err-dtype c =
    ap (option_map ref_part) c.from_residual.ensures
    ∙ sym (zip-past (fields_of c.args.fields.now).types (map raw_of c.args.values.now) c.args.place (sym c.in_err-dtype.ensures.tree))
