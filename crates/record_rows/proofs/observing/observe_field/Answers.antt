-- A cell of which no scalar is made, and one of which one is.
use Rattle.std.proofs.Common.{◌≡◌, OnOk, subst}
use Rattle.vortex_statistics.specs.declared.column_statistics.ColumnStatistics.{ColumnStatistics}
use Rattle.record_rows.specs.Observed.{KeepsValid}
use Rattle.record_rows.proofs.observing.observe_field.Goals as goal

pub returns-then-observe_in_place-clause-observed : goal.returns-then-observe_in_place-clause-observed
returns-then-observe_in_place-clause-observed c = c.observe_in_place.ensures.observed c.if-observe_in_place.true c.args.field.now.is_quoted

pub returns-clause-valid : goal.returns-clause-valid
returns-clause-valid c =
    let kept : c.observe_in_place.new.statistics ≡ c.args.statistics.now = c.observe_in_place.ensures.unchanged c.if-observe_in_place.false in
    subst (λ (s : ColumnStatistics). OnOk c.observe_taken.result (KeepsValid s c.observe_taken.new.statistics)) kept c.observe_taken.ensures.valid
