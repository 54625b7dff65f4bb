-- The mask of the filter, or why there is none.
use Rattle.std.proofs.Common.{length}
use Rattle.vortex_c.proofs.FilterSteps.{mask-given, no-mask}
use Rattle.vortex_c.proofs.filters.mask_by.Goals as goal

pub returns-in-Ok-clause-mask : goal.returns-in-Ok-clause-mask
returns-in-Ok-clause-mask c = λ n bytes is_encoding. mask-given n bytes c.args.filter.now c.deref.result.now c.args.columns.now c.args.count c.mask_of_columns.new.mask c.deref.ensures.value is_encoding c.in-Ok.ensures.columns c.in-Ok.ensures.masked

pub returns-in-Err-clause-refused : goal.returns-in-Err-clause-refused
returns-in-Err-clause-refused c = λ n bytes is_encoding. no-mask n bytes c.args.filter.now c.deref.result.now c.args.columns.now c.args.count (length c.args.buffer.now) c.in-Err.cause c.deref.ensures.value is_encoding c.in-Err.ensures.refused
