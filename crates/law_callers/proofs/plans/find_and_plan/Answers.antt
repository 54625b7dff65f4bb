-- What the search answers is what the plan finds.
use Rattle.std.proofs.Common.{ℕ, List, Option, Some, Ok, subst, sym}
use Rattle.std.specs.Io.KnownBytes.{Appends}
use Rattle.std.specs.List.{flat_map}
use Rattle.record_search.specs.Answers.{AnswersFindRows}
use Rattle.record_search.specs.Searched.{matches_record}
use Rattle.vortex_filter.specs.Formula.{formula}
use Rattle.zone_index.specs.Sinks.{plain_record}
use Rattle.zone_scans.specs.Laws.{found_in_zones, record_bytes}
use Rattle.zone_scans.specs.declared.planning.PlannedZone.{PlannedZone}
use Rattle.law_callers.proofs.plans.find_and_plan.Goals as goal

pub returns : goal.returns
returns g c = λ start bytes is few index.
    let s = c.args.sought.now.schema in
    let f = formula c.args.sought.now.filter in
    let old = g.W.Write.contents c.args.sink.now.writer in
    let new = g.W.Write.contents c.find_rows.new.sink.writer in
    let answer : AnswersFindRows s f plain_record 0 c.args.zones.now (Some bytes) old new (Ok c.in_ok-find_rows.field-0) =
    subst (λ (o : Option (List ℕ)). AnswersFindRows s f plain_record 0 c.args.zones.now o old new (Ok c.in_ok-find_rows.field-0)) is c.in_ok-find_rows.ensures.answer in
    let found = c.plans_find_rows.ensures s f start c.args.zones.now bytes index in
    subst (λ (zones : List PlannedZone). Appends old new (flat_map (record_bytes bytes) (found_in_zones s.delimiter.byte (matches_record s f) bytes zones))) (sym c.in-Ok.ensures.zones) (found.written 0 old new c.in_ok-find_rows.field-0 few answer)
