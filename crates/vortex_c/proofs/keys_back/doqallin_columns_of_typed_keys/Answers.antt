-- Why there are no columns.
use Rattle.std.proofs.Common.{◌∙◌, sym}
use Rattle.column_items.specs.Codes.{kind_of_code}
use Rattle.vortex_c.proofs.KeyBackSteps.{not-small, only-small, why-none}
use Rattle.vortex_c.proofs.keys_back.doqallin_columns_of_typed_keys.Goals as goal

pub returns-in-Err-clause-refused : goal.returns-in-Err-clause-refused
returns-in-Err-clause-refused c = λ _.
    why-none kind_of_code c.args.kinds.now c.args.options.now c.args.bytes.now c.args.offsets.now c.args.columns.now c.args.fault.now c.tell.new.fault c.tell.result c.in-Err.refusal c.in-Err.ensures.refused c.tell.ensures.status c.tell.ensures.fault

pub returns-in-Err-clause-counted : goal.returns-in-Err-clause-counted
returns-in-Err-clause-counted c = λ h. c.in-Err.ensures.counted (only-small c.in-Err.refusal (sym c.tell.ensures.status ∙ h))

pub returns-in-Err-clause-kept : goal.returns-in-Err-clause-kept
returns-in-Err-clause-kept c = λ _ h. c.in-Err.ensures.kept (not-small c.in-Err.refusal (λ e. h (c.tell.ensures.status ∙ e)))
