-- Each call goes from an extension's tree to that of its storage.
use Rattle.std.proofs.Common.{◌+◌, ◌*◌}
use Rattle.vortex_dtype.specs.TypeOf.{ext_of, type_of}
use Rattle.vortex_dtype.specs.Lemmas.TypeSize.{type_size}
use Rattle.vortex_value.proofs.storage.+storage_of.Given as goal

abbrev pub decreases-storage_of : goal.decreases-storage_of
decreases-storage_of l = 2 * type_size (type_of l.dtype.now)

abbrev pub decreases-storage_below : goal.decreases-storage_below
decreases-storage_below l = 2 * type_size (ext_of l.extension.now).storage + 1
