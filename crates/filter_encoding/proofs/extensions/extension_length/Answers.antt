-- One byte, the keys, and the byte of the storage.
use Rattle.std.proofs.Common.{rules}
use Rattle.vortex_dtype.specs.Words.{ext_of}
use Rattle.filter_encoding.proofs.NoValueLaws.{extension_long}
use Rattle.filter_encoding.proofs.extensions.extension_length.Goals as goal

pub returns : goal.returns
returns c =
    extension_long (ext_of c.args.extension.now).id (ext_of c.args.extension.now).metadata (ext_of c.args.extension.now).storage c.plain_key_length-id.result c.plain_key_length-metadata.result c.saturating_add.result c.saturating_add-2.result
    (search rules) (search rules) c.saturating_add.ensures c.saturating_add-2.ensures
