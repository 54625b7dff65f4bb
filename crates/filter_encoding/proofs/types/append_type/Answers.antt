-- An extension, or a type with a byte.
use Rattle.vortex_dtype.specs.TypeOf.{type_of}
use Rattle.filter_encoding.proofs.ExtensionLaws.{byte_written, extension_written}
use Rattle.filter_encoding.proofs.types.append_type.Goals as goal

pub returns-in-Some : goal.returns-in-Some
returns-in-Some c = extension_written _ _ _ (type_of c.args.dtype.now) c.append_extension.result _ _ c.in-Some.ensures c.append_extension.ensures

pub returns-in-None : goal.returns-in-None
returns-in-None c = byte_written (type_of c.args.dtype.now) c.append_byte_type.result _ _ c.in-None.ensures c.append_byte_type.ensures
