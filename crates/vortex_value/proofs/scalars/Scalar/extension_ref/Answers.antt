use Rattle.std.proofs.Common.{◌≡◌, None, ap, rules}
use Rattle.vortex_dtype.specs.TypeOf.{type_of, ext_of}
use Rattle.vortex_dtype.specs.declared.types.DType.{Extension}
use Rattle.vortex_value.specs.Makers.{child_cause, extension_over}
use Rattle.vortex_value.specs.Values.RawOf.{raw_of}
use Rattle.vortex_value.specs.Values.Scalars.{scalar_raw}
use Rattle.vortex_value.proofs.MakerLaws.{child_valid, scalar_valid}
use Rattle.vortex_dtype.specs.Lemmas.TypeLevels.{type_of-Extension}
use Rattle.vortex_value.proofs.scalars.Scalar.extension_ref.Goals as goal

pub returns-clause-valid : goal.returns-clause-valid
returns-clause-valid c =
    let extension = ext_of c.args.ext_dtype in
    let accepted : child_cause 0 (ext_of c.args.ext_dtype).storage (type_of c.args.storage.dtype) ≡ None = search rules in
    let child = child_valid 0 extension.storage (type_of c.args.storage.dtype) (scalar_raw c.args.storage) accepted c.requires in
    scalar_valid (Extension c.args.ext_dtype) c.into_value.result (extension_over extension) (scalar_raw c.args.storage) (type_of-Extension c.args.ext_dtype) (ap raw_of c.into_value.ensures) child
