-- Each row matches, and each record has one.
use Rattle.std.proofs.Common.{sym, ◌∙◌, subst, List, ℕ}
use Rattle.zone_index.specs.Zones.{zone_records}
use Rattle.zone_index.proofs.Answering.{all_match, same_count}
use Rattle.zone_index.proofs.search.way_of_zone.Goals as goal

pub returns-then-has_only_rows-clause-right : goal.returns-then-has_only_rows-clause-right
returns-then-has_only_rows-clause-right g c = λ bytes zone.
    let rs = zone_records (g.M.Records.delimiter c.args.matcher.now) bytes c.args.zone.now in
    all_match (g.M.Records.has_row c.args.matcher.now) (g.M.Matcher.matches c.args.matcher.now) rs
    (c.in_ok-decision.ensures.all (sym c.in_ok-decision.ensures.value ∙ c.in-AllMatch.is) rs (subst (λ (l : List ℕ). g.M.Records.Describes c.args.matcher.now l rs) (sym c.deref.ensures.value) zone.described))
    (sym zone.rows ∙ sym (same_count c.has_only_rows.result c.args.zone.now.records c.args.zone.now.rows c.has_only_rows.ensures c.if-has_only_rows.true) ∙ zone.records)
