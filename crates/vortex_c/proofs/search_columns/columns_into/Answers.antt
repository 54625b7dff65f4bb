-- What is written, and why nothing is.
use Rattle.std.proofs.Common.{◌≡◌, ◌∙◌, ◌⊎◌, ap, length, subst, sym}
use Rattle.record_columns.specs.Columns.{AreColumnsOf}
use Rattle.record_columns.specs.Refused.{AreCountsIfSmall, ArePassed, AreWanted, IsRefusal}
use Rattle.record_columns.specs.Rows.{matching_in}
use Rattle.vortex_filter.specs.Formula.{formula}
use Rattle.vortex_c.specs.EncodingAnswers.{HasAnswer}
use Rattle.vortex_c.proofs.SearchColumnSteps.{counts_told, else_kept, fault_kept, none_given, of_sought}
use Rattle.vortex_c.proofs.search_columns.columns_into.Goals as goal

pub returns-in-Ok-clause-given : goal.returns-in-Ok-clause-given
returns-in-Ok-clause-given c = λ _.
    let filter = ap formula c.matcher.ensures.filter in
    let text = c.args.text.now in
    record {
      passed = of_sought (λ s f. ArePassed s text) _ _ _ _ c.matcher.ensures.schema filter c.in-Ok.ensures.passed;
      asked = of_sought (λ s f. AreWanted s c.args.wanted.now (length c.args.columns.now)) _ _ _ _ c.matcher.ensures.schema filter c.in-Ok.ensures.wanted;
      count = of_sought (λ s f. c.in-Ok.count ≡ length (matching_in s f text)) _ _ _ _ c.matcher.ensures.schema filter c.in-Ok.ensures.rows;
      columns = of_sought (λ s f. AreColumnsOf s (matching_in s f text) c.args.wanted.now c.args.columns.now c.columns_of_records.new.columns) _ _ _ _ c.matcher.ensures.schema filter c.in-Ok.ensures.columns;
    }

pub returns-in-Err-clause-given : goal.returns-in-Err-clause-given
returns-in-Err-clause-given c = λ h. absurd (none_given c.in-Err.error (sym c.tell_columns.ensures.status ∙ h))

pub returns-in-Err-clause-counted : goal.returns-in-Err-clause-counted
returns-in-Err-clause-counted c = λ h.
    let filter = ap formula c.matcher.ensures.filter in
    let text = c.args.text.now in
    let wanted = c.args.wanted.now in
    let new = c.columns_of_records.new.columns in
    counts_told c.args.sought.now.schema (formula c.args.sought.now.filter) c.args.place text wanted c.args.columns.now new c.in-Err.error c.args.rows.now c.tell_columns.new.rows (sym c.tell_columns.ensures.status ∙ h) c.tell_columns.ensures.rows
    (of_sought (λ s f. IsRefusal s f c.args.place text wanted new c.in-Err.error) _ _ _ _ c.matcher.ensures.schema filter c.in-Err.ensures.refused)
    (of_sought (λ s f. AreCountsIfSmall s (matching_in s f text) wanted c.args.columns.now new c.in-Err.error) _ _ _ _ c.matcher.ensures.schema filter c.in-Err.ensures.counted)

pub returns-in-Err-clause-refused : goal.returns-in-Err-clause-refused
returns-in-Err-clause-refused c = λ _.
    let refusal = of_sought (λ s f. IsRefusal s f c.args.place c.args.text.now c.args.wanted.now c.columns_of_records.new.columns c.in-Err.error) _ _ _ _ c.matcher.ensures.schema (ap formula c.matcher.ensures.filter) c.in-Err.ensures.refused in
    (c.in-Err.error, refusal, c.tell_columns.ensures.status, c.tell_columns.ensures.fault)

pub returns-in-Err-clause-kept : goal.returns-in-Err-clause-kept
returns-in-Err-clause-kept c =
    let old = c.args.columns.now in
    let new = c.columns_of_records.new.columns in
    subst (λ status. (HasAnswer status) ⊎ ((new ≡ old) × (c.tell_columns.new.rows ≡ c.args.rows.now))) (sym c.tell_columns.ensures.status) (else_kept old new c.in-Err.error c.args.rows.now c.tell_columns.new.rows c.tell_columns.ensures.rows c.in-Err.ensures.kept)

pub returns-in-Err-clause-kept_fault : goal.returns-in-Err-clause-kept_fault
returns-in-Err-clause-kept_fault c = λ h. c.tell_columns.ensures.fault ∙ fault_kept _ c.in-Err.error c.args.fault.now (subst HasAnswer c.tell_columns.ensures.status h)
