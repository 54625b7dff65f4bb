-- The mask, or why there is none, at the depth of the encoding.
use Rattle.std.proofs.Common.{length, subst}
use Rattle.vortex_c.specs.Filters.{IsFilterMask, SaysWhyNoMask}
use Rattle.vortex_c.proofs.filters.doqallin_filter_mask.Goals as goal

pub returns-in-Ok-clause-given : goal.returns-in-Ok-clause-given
returns-in-Ok-clause-given c = λ _. subst (λ n. IsFilterMask n c.args.filter.now c.args.columns.now c.args.count c.write_rows.new.buffer) c.encoding_depth.ensures c.in-Ok.ensures.mask

pub returns-in-Err-clause-refused : goal.returns-in-Err-clause-refused
returns-in-Err-clause-refused c =
    λ _. subst (λ n. SaysWhyNoMask n c.args.filter.now c.args.columns.now c.args.count (length c.args.buffer.now) c.args.fault.now c.tell_rows.new.fault c.tell_rows.result) c.encoding_depth.ensures
    (c.in-Err.refusal, c.in-Err.ensures.refused, c.tell_rows.ensures.status, c.tell_rows.ensures.fault)
