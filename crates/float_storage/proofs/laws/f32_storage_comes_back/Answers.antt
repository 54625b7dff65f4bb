use Rattle.std.specs.Float.{binary32}
use Rattle.float_storage.proofs.Order.{back_and_forth, back_bits}
use Rattle.float_storage.proofs.laws.f32_storage_comes_back.Goals as goal

pub returns-clause-float : goal.returns-clause-float
returns-clause-float c = back_and_forth binary32 c.args.storage

pub returns-clause-bits : goal.returns-clause-bits
returns-clause-bits c = back_bits binary32 c.args.storage
