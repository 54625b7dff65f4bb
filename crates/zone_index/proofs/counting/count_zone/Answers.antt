-- No row matches, and each does.
use Rattle.std.proofs.Common.{◌≡◌, sym, ap, ◌∙◌, subst, true, List, ℕ}
use Rattle.zone_index.specs.Zones.{is_open, is_undecided, zone_records}
use Rattle.zone_index.proofs.Answering.{none_match, rows_few, rows_match, undecided, zone_counted}
use Rattle.zone_index.proofs.Sifting.{zone_passes, zone_tells}
use Rattle.zone_index.proofs.counting.count_zone.Goals as goal

pub returns-in-NoneMatch-clause-counted : goal.returns-in-NoneMatch-clause-counted
returns-in-NoneMatch-clause-counted g c = λ was held zone.
    none_match (g.M.Records.delimiter c.args.matcher.now) (g.M.Matcher.matches c.args.matcher.now) was c.args.zone.now
    (c.in_ok-decision.ensures.none (sym c.in_ok-decision.ensures.value ∙ c.in-NoneMatch.is) _ (subst (λ (l : List ℕ). g.M.Records.Describes c.args.matcher.now l (zone_records (g.M.Records.delimiter c.args.matcher.now) was c.args.zone.now)) (sym c.deref.ensures.value) zone.described))

pub returns-in-AllMatch-clause-counted : goal.returns-in-AllMatch-clause-counted
returns-in-AllMatch-clause-counted g c = λ was held zone.
    zone.rows ∙ rows_match (g.M.Records.has_row c.args.matcher.now) (g.M.Matcher.matches c.args.matcher.now) (zone_records (g.M.Records.delimiter c.args.matcher.now) was c.args.zone.now)
    (c.in_ok-decision.ensures.all (sym c.in_ok-decision.ensures.value ∙ c.in-AllMatch.is) _ (subst (λ (l : List ℕ). g.M.Records.Describes c.args.matcher.now l (zone_records (g.M.Records.delimiter c.args.matcher.now) was c.args.zone.now)) (sym c.deref.ensures.value) zone.described))

pub returns-in-AllMatch-clause-few : goal.returns-in-AllMatch-clause-few
returns-in-AllMatch-clause-few g c = λ was zone.
    rows_few (g.M.Records.delimiter c.args.matcher.now) (g.M.Records.has_row c.args.matcher.now) (g.M.Records.Describes c.args.matcher.now) was c.args.zone.now zone

pub returns-in_ok-piece-in-Unknown-clause-asks : goal.returns-in_ok-piece-in-Unknown-clause-asks
returns-in_ok-piece-in-Unknown-clause-asks g c =
    undecided (g.M.Matcher.decides c.args.matcher.now) c.args.zone.now c.in_ok-decision.decision _ (g.R.ReadAt.asked c.read_zone.new.reader) (c.in_ok-decision.ensures.value ∙ ap (g.M.Matcher.decides c.args.matcher.now) c.deref.ensures.value) (ap is_open c.in-Unknown.is) c.in_ok-piece-in-Unknown.ensures.asks

pub returns-in_ok-piece-in-Unknown-clause-counted : goal.returns-in_ok-piece-in-Unknown-clause-counted
returns-in_ok-piece-in-Unknown-clause-counted g c =
    zone_counted c.has_only_rows.result (g.M.Records.delimiter c.args.matcher.now) (g.M.Records.has_row c.args.matcher.now) (g.M.Matcher.matches c.args.matcher.now) (g.M.Records.Describes c.args.matcher.now) (g.R.ReadAt.bytes c.args.reader.now) c.in_ok-piece-in-Unknown.piece.items c.deref-in-Unknown.result.now c.args.zone.now c.count_in.result
    c.has_only_rows.ensures c.deref-in-Unknown.ensures.value c.in_ok-piece-in-Unknown.ensures.read c.count_in.ensures.counted

pub returns-in_ok-piece-in-Unknown-clause-passed : goal.returns-in_ok-piece-in-Unknown-clause-passed
returns-in_ok-piece-in-Unknown-clause-passed g c =
    zone_passes (g.M.Records.is_refused c.args.matcher.now) (is_undecided (g.M.Matcher.decides c.args.matcher.now) c.args.zone.now ≡ true) c.has_only_rows.result (g.M.Records.delimiter c.args.matcher.now) (g.M.Records.has_row c.args.matcher.now) (g.M.Records.Describes c.args.matcher.now) (g.R.ReadAt.bytes c.args.reader.now) c.in_ok-piece-in-Unknown.piece.items c.deref-in-Unknown.result.now c.args.zone.now c.count_in.result
    c.has_only_rows.ensures c.deref-in-Unknown.ensures.value c.in_ok-piece-in-Unknown.ensures.read c.count_in.ensures.passed

pub returns-in_ok-piece-in-Unknown-clause-first : goal.returns-in_ok-piece-in-Unknown-clause-first
returns-in_ok-piece-in-Unknown-clause-first g c =
    zone_tells (g.M.Records.is_refused c.args.matcher.now) (is_undecided (g.M.Matcher.decides c.args.matcher.now) c.args.zone.now ≡ true) c.has_only_rows.result (g.M.Records.delimiter c.args.matcher.now) (g.M.Records.has_row c.args.matcher.now) (g.M.Records.Describes c.args.matcher.now) (g.R.ReadAt.bytes c.args.reader.now) c.in_ok-piece-in-Unknown.piece.items c.deref-in-Unknown.result.now c.args.zone.now c.count_in.result
    c.has_only_rows.ensures c.deref-in-Unknown.ensures.value c.in_ok-piece-in-Unknown.ensures.read
    (ap is_open (ap (g.M.Matcher.decides c.args.matcher.now) (sym c.deref.ensures.value) ∙ sym c.in_ok-decision.ensures.value ∙ c.in-Unknown.is)) c.count_in.ensures.first
