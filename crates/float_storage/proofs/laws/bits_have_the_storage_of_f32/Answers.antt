use Rattle.std.specs.Float.{binary32}
use Rattle.float_storage.proofs.Order.{storage_of_read}
use Rattle.float_storage.proofs.laws.bits_have_the_storage_of_f32.Goals as goal

pub returns : goal.returns
returns c = storage_of_read binary32 c.args.bits c.ranges.bits.fits
