-- The mask of what was read is that of the columns.
use Rattle.std.proofs.Common.{arith, length, map, subst, sym}
use Rattle.vortex_dtype.specs.TypeOf.{type_of}
use Rattle.vortex_filter.specs.Formula.{formula}
use Rattle.column_kernels.specs.Words.{HaveRowsTo, HaveTexts}
use Rattle.column_filters.proofs.RowSteps.{mask-along, mask-refused, rows-to, texts-of}
use Rattle.column_filters.proofs.masks.mask_of_columns.Goals as goal

pub write_mask-requires-clause-rows : goal.write_mask-requires-clause-rows
write_mask-requires-clause-rows c = subst (HaveRowsTo c.args.count) (sym c.deref.ensures.value) (rows-to c.in_ok-rows.rows.items c.args.count c.in_ok-rows.ensures.read.rows)

pub write_mask-requires-clause-texts : goal.write_mask-requires-clause-texts
write_mask-requires-clause-texts c = subst HaveTexts (sym c.deref.ensures.value) (texts-of c.in_ok-rows.rows.items c.args.count c.in_ok-rows.ensures.read.rows)

pub returns-clause-masked : goal.returns-clause-masked
returns-clause-masked c = mask-along c.named_columns_decide.ensures (formula c.args.filter.now) c.args.columns.now c.args.count c.in_ok-rows.rows.items c.deref.result.now _ c.deref.ensures.value c.in_ok-rows.ensures.read c.write_mask.ensures.masked

pub returns-in_err-rows-clause-refused : goal.returns-in_err-rows-clause-refused
returns-in_err-rows-clause-refused c = mask-refused (formula c.args.filter.now) c.args.columns.now (map type_of c.args.types.now) c.args.count (length c.args.mask.now) _ _ c.from_residual.ensures (omega (arith, c.if-mask-bitmap_length.false)) c.in_err-rows.ensures.fault
