-- The row that is observed is the record's, and what is told of one that is refused.
use Rattle.std.proofs.Common.{◌∙◌, None, Some, subst}
use Rattle.record_rows.specs.Observed.{IsNotObserved, SomeIsFull}
use Rattle.record_rows.specs.Rows.{Refuses}
use Rattle.record_rows.specs.declared.errors.ObserveError.{ObserveError}
use Rattle.record_search.proofs.ObserveLaws.{longer_observed, none_noted, nulls_observed, passed_observed, row_observed, valid_observed}
use Rattle.record_search.proofs.RefusedLaws.{refused_right, row_refused}
use Rattle.record_search.proofs.describing.observe_line.Goals as goal

pub returns-in-Ok-Some-clause-observed : goal.returns-in-Ok-Some-clause-observed
returns-in-Ok-Some-clause-observed c =
    let s = c.args.schema.now in
    row_observed c.shapes_say_words.ensures s.delimiter.byte s.reading s.columns.items c.args.line.now c.args.statistics.now c.observe_record.new.statistics (Some c.in-Ok-Some.notes) (rw c.in-Ok-Some.field-0-is at c.in-Ok-Some.ensures.observed)

pub returns-in-Ok-None-clause-observed : goal.returns-in-Ok-None-clause-observed
returns-in-Ok-None-clause-observed c =
    let s = c.args.schema.now in
    row_observed c.shapes_say_words.ensures s.delimiter.byte s.reading s.columns.items c.args.line.now c.args.statistics.now c.observe_record.new.statistics None (rw c.in-Ok-None.field-0-is at c.in-Ok-None.ensures.observed)

pub returns-in-Ok-Some-clause-nulls : goal.returns-in-Ok-Some-clause-nulls
returns-in-Ok-Some-clause-nulls c = nulls_observed c.shapes_say_words.ensures c.args.schema.now c.args.line.now c.args.statistics.now c.observe_record.new.statistics c.in-Ok-Some.notes (rw c.in-Ok-Some.field-0-is at c.in-Ok-Some.ensures.observed)

pub returns-in-Ok-None-clause-nulls : goal.returns-in-Ok-None-clause-nulls
returns-in-Ok-None-clause-nulls c = (none_noted c.args.schema.now c.args.line.now (rw c.in-Ok-None.field-0-is at c.in-Ok-None.ensures.observed).0).0

pub returns-in-Ok-Some-clause-longer : goal.returns-in-Ok-Some-clause-longer
returns-in-Ok-Some-clause-longer c = c.from.ensures ∙ longer_observed c.args.schema.now c.args.line.now c.args.statistics.now c.observe_record.new.statistics c.in-Ok-Some.notes (rw c.in-Ok-Some.field-0-is at c.in-Ok-Some.ensures.observed)

pub returns-in-Ok-None-clause-longer : goal.returns-in-Ok-None-clause-longer
returns-in-Ok-None-clause-longer c = (none_noted c.args.schema.now c.args.line.now (rw c.in-Ok-None.field-0-is at c.in-Ok-None.ensures.observed).0).1

pub returns-in-Ok-Some-clause-passed : goal.returns-in-Ok-Some-clause-passed
returns-in-Ok-Some-clause-passed c = passed_observed c.shapes_say_words.ensures c.args.schema.now c.args.line.now c.args.statistics.now c.observe_record.new.statistics (Some c.in-Ok-Some.notes) (rw c.in-Ok-Some.field-0-is at c.in-Ok-Some.ensures.observed)

pub returns-in-Ok-None-clause-passed : goal.returns-in-Ok-None-clause-passed
returns-in-Ok-None-clause-passed c = passed_observed c.shapes_say_words.ensures c.args.schema.now c.args.line.now c.args.statistics.now c.observe_record.new.statistics None (rw c.in-Ok-None.field-0-is at c.in-Ok-None.ensures.observed)

pub returns-in-Ok-Some-clause-valid : goal.returns-in-Ok-Some-clause-valid
returns-in-Ok-Some-clause-valid c = valid_observed c.args.schema.now c.args.line.now c.args.statistics.now c.observe_record.new.statistics (Some c.in-Ok-Some.notes) (rw c.in-Ok-Some.field-0-is at c.in-Ok-Some.ensures.observed)

pub returns-in-Ok-None-clause-valid : goal.returns-in-Ok-None-clause-valid
returns-in-Ok-None-clause-valid c = valid_observed c.args.schema.now c.args.line.now c.args.statistics.now c.observe_record.new.statistics None (rw c.in-Ok-None.field-0-is at c.in-Ok-None.ensures.observed)

pub returns-in-Err-Row-clause-refused : goal.returns-in-Err-Row-clause-refused
returns-in-Err-Row-clause-refused c =
    let s = c.args.schema.now in
    let why = subst (λ (e : ObserveError). IsNotObserved (Refuses s.delimiter.byte s.reading s.columns.items c.args.line.now) (SomeIsFull c.args.statistics.now) e) c.in-Err-Row.field-0-is c.in-Err-Row.ensures.refused in
    rw c.record_fault.ensures (row_refused s c.args.place c.args.line.now c.in-Err-Row.error why)

pub returns-in-Err-Row-clause-right : goal.returns-in-Err-Row-clause-right
returns-in-Err-Row-clause-right c =
    let s = c.args.schema.now in
    let why = subst (λ (e : ObserveError). IsNotObserved (Refuses s.delimiter.byte s.reading s.columns.items c.args.line.now) (SomeIsFull c.args.statistics.now) e) c.in-Err-Row.field-0-is c.in-Err-Row.ensures.refused in
    rw c.record_fault.ensures (refused_right c.shapes_say_words.ensures s c.args.place c.args.line.now c.in-Err-Row.error why)
