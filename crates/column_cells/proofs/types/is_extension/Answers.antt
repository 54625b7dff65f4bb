use Rattle.std.proofs.Common.{◌∙◌, ap}
use Rattle.vortex_dtype.specs.Lemmas.TypeLevels.{type_of-Extension}
use Rattle.vortex_dtype.specs.TypeOf.{ext_of, type_of}
use Rattle.column_cells.proofs.TypeSteps.{over_parts}
use Rattle.column_cells.proofs.types.is_extension.Goals as goal

pub returns : goal.returns
returns c = over_parts c.args.id.now c.args.metadata.now c.args.storage (type_of c.args.dtype.now) (ext_of c.in-Extension.extension) _ (ap type_of c.in-Extension.is ∙ type_of-Extension c.in-Extension.extension) c.has_parts.ensures
