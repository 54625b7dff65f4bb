-- That of an extension, or one byte.
use Rattle.vortex_dtype.specs.TypeOf.{type_of}
use Rattle.filter_encoding.proofs.NoValueLaws.{byte_long, type_long}
use Rattle.filter_encoding.proofs.types.type_length.Goals as goal

pub returns-in-Some : goal.returns-in-Some
returns-in-Some c = type_long _ _ _ (type_of c.args.dtype.now) c.extension_length.result c.in-Some.ensures c.extension_length.ensures

pub returns-in-None : goal.returns-in-None
returns-in-None c = byte_long (type_of c.args.dtype.now) c.in-None.ensures
