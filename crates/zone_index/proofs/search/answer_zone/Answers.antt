-- What is written of a zone, in each of the three ways, and what is asked for.
use Rattle.std.proofs.Common.{◌≡◌, ◌∙◌, ap, subst, sym, true}
use Rattle.std.proofs.lemmas.Result.{err_from_is_err_and}
use Rattle.zone_index.specs.Zones.{IsWayOf, is_search, is_searched, is_skip}
use Rattle.zone_index.proofs.Answering.{copied_counted, found_counted, none_match, not_skipped, rows_of_piece}
use Rattle.zone_index.proofs.Sifting.{zone_first, zone_passed}
use Rattle.zone_index.proofs.Sinking.{first_copied, first_kept, first_none, first_searched, zone_copied, zone_searched, zone_skipped}
use Rattle.zone_index.proofs.search.answer_zone.Goals as goal

pub returns-in-Skip-clause-written : goal.returns-in-Skip-clause-written
returns-in-Skip-clause-written g c = λ was held zone.
    zone_skipped _ g.S.Sink.written_as (g.M.Matcher.matches c.args.matcher.now) (g.M.Records.delimiter c.args.matcher.now) c.args.number was c.args.zone.now
    (subst (IsWayOf (g.M.Records.delimiter c.args.matcher.now) (g.M.Records.has_row c.args.matcher.now) (g.M.Records.Describes c.args.matcher.now) (g.M.Matcher.matches c.args.matcher.now) c.args.zone.now) c.in-Skip.is c.in_ok-way.ensures.right was zone)

pub returns-in-Skip-clause-found : goal.returns-in-Skip-clause-found
returns-in-Skip-clause-found g c = λ was held zone.
    none_match (g.M.Records.delimiter c.args.matcher.now) (g.M.Matcher.matches c.args.matcher.now) was c.args.zone.now
    (subst (IsWayOf (g.M.Records.delimiter c.args.matcher.now) (g.M.Records.has_row c.args.matcher.now) (g.M.Records.Describes c.args.matcher.now) (g.M.Matcher.matches c.args.matcher.now) c.args.zone.now) c.in-Skip.is c.in_ok-way.ensures.right was zone)

pub returns-in_ok-finish-in-Copy-clause-written : goal.returns-in_ok-finish-in-Copy-clause-written
returns-in_ok-finish-in-Copy-clause-written g c = λ was held zone.
    zone_copied _ (g.S.Sink.contents c.give_whole.new.sink) _ g.S.Sink.written_as (g.M.Matcher.matches c.args.matcher.now) (g.M.Records.delimiter c.args.matcher.now) c.delimiter_byte.result.byte c.args.number was c.in_ok-whole-in-Copy.whole.items (g.S.Sink.taken c.give_whole.new.sink) c.args.zone.now
    (subst (IsWayOf (g.M.Records.delimiter c.args.matcher.now) (g.M.Records.has_row c.args.matcher.now) (g.M.Records.Describes c.args.matcher.now) (g.M.Matcher.matches c.args.matcher.now) c.args.zone.now) c.in-Copy.is c.in_ok-way.ensures.right was zone)
    c.delimiter_byte.ensures (c.in_ok-whole-in-Copy.ensures.read was held zone.inside) c.in_ok-give_whole-in-Copy.ensures.taken c.give_whole.ensures.kept c.in_ok-finish-in-Copy.ensures.written

pub returns-in_ok-finish-in-Copy-clause-found : goal.returns-in_ok-finish-in-Copy-clause-found
returns-in_ok-finish-in-Copy-clause-found g c = λ was held zone.
    copied_counted (g.M.Records.delimiter c.args.matcher.now) (g.M.Records.has_row c.args.matcher.now) (g.M.Records.Describes c.args.matcher.now) (g.M.Matcher.matches c.args.matcher.now) was c.args.zone.now
    (subst (IsWayOf (g.M.Records.delimiter c.args.matcher.now) (g.M.Records.has_row c.args.matcher.now) (g.M.Records.Describes c.args.matcher.now) (g.M.Matcher.matches c.args.matcher.now) c.args.zone.now) c.in-Copy.is c.in_ok-way.ensures.right was zone) zone

pub returns-in_err-hits-in-Search-clause-asks : goal.returns-in_err-hits-in-Search-clause-asks
returns-in_err-hits-in-Search-clause-asks g c =
    not_skipped (g.M.Matcher.decides c.args.matcher.now) c.args.zone.now c.in_ok-way.way _ (g.R.ReadAt.asked c.read_zone-in-Search.new.reader) c.in_ok-way.ensures.way (ap is_skip c.in-Search.is) c.in_ok-piece-in-Search.ensures.asks

pub returns-in_err-finish-in-Search-clause-asks : goal.returns-in_err-finish-in-Search-clause-asks
returns-in_err-finish-in-Search-clause-asks g c =
    not_skipped (g.M.Matcher.decides c.args.matcher.now) c.args.zone.now c.in_ok-way.way _ (g.R.ReadAt.asked c.read_zone-in-Search.new.reader) c.in_ok-way.ensures.way (ap is_skip c.in-Search.is) c.in_ok-piece-in-Search.ensures.asks

pub returns-in_ok-finish-in-Search-clause-asks : goal.returns-in_ok-finish-in-Search-clause-asks
returns-in_ok-finish-in-Search-clause-asks g c =
    not_skipped (g.M.Matcher.decides c.args.matcher.now) c.args.zone.now c.in_ok-way.way _ (g.R.ReadAt.asked c.read_zone-in-Search.new.reader) c.in_ok-way.ensures.way (ap is_skip c.in-Search.is) c.in_ok-piece-in-Search.ensures.asks

pub returns-in_err-way-clause-begun : goal.returns-in_err-way-clause-begun
returns-in_err-way-clause-begun g c =
    let p = err_from_is_err_and c.from_residual.result c.from_residual.ensures.1 in
    rw p.1 (λ was held zone. first_none _ _)

pub returns-in_err-whole-in-Copy-clause-begun : goal.returns-in_err-whole-in-Copy-clause-begun
returns-in_err-whole-in-Copy-clause-begun g c =
    let p = err_from_is_err_and c.from_residual-in_err-whole-in-Copy.result c.from_residual-in_err-whole-in-Copy.ensures.1 in
    rw p.1 (λ was held zone. first_none _ _)

pub returns-in_err-piece-in-Search-clause-begun : goal.returns-in_err-piece-in-Search-clause-begun
returns-in_err-piece-in-Search-clause-begun g c =
    let p = err_from_is_err_and c.from_residual-in_err-piece-in-Search.result c.from_residual-in_err-piece-in-Search.ensures.1 in
    rw p.1 (λ was held zone. first_none _ _)

pub returns-in_err-give_whole-in-Copy-clause-begun : goal.returns-in_err-give_whole-in-Copy-clause-begun
returns-in_err-give_whole-in-Copy-clause-begun g c =
    let p = err_from_is_err_and c.from_residual-in_err-give_whole-in-Copy.result c.from_residual-in_err-give_whole-in-Copy.ensures.1 in
    rw p.1 (λ was held zone. first_kept _ _ _ c.give_whole.ensures.kept)

pub returns-in_err-hits-in-Search-clause-begun : goal.returns-in_err-hits-in-Search-clause-begun
returns-in_err-hits-in-Search-clause-begun g c =
    let p = err_from_is_err_and c.from_residual-in_err-hits-in-Search.result c.from_residual-in_err-hits-in-Search.ensures.1 in
    rw p.1 (λ was held zone. first_kept _ _ _ c.give_hits.ensures.kept)

pub returns-in_err-finish-in-Copy-clause-begun : goal.returns-in_err-finish-in-Copy-clause-begun
returns-in_err-finish-in-Copy-clause-begun g c =
    let p = err_from_is_err_and c.from_residual-in_err-finish-in-Copy.result c.from_residual-in_err-finish-in-Copy.ensures.1 in
    rw p.1 (λ was held zone.
    first_copied _ (g.S.Sink.contents c.give_whole.new.sink) _ g.S.Sink.written_as (g.M.Matcher.matches c.args.matcher.now) (g.M.Records.delimiter c.args.matcher.now) c.delimiter_byte.result.byte c.args.number was c.in_ok-whole-in-Copy.whole.items (g.S.Sink.taken c.give_whole.new.sink) c.args.zone.now
    (subst (IsWayOf (g.M.Records.delimiter c.args.matcher.now) (g.M.Records.has_row c.args.matcher.now) (g.M.Records.Describes c.args.matcher.now) (g.M.Matcher.matches c.args.matcher.now) c.args.zone.now) c.in-Copy.is c.in_ok-way.ensures.right was zone)
    c.delimiter_byte.ensures (c.in_ok-whole-in-Copy.ensures.read was held zone.inside) c.in_ok-give_whole-in-Copy.ensures.taken c.give_whole.ensures.kept c.in_err-finish-in-Copy.ensures.begun)

pub returns-in_err-finish-in-Search-clause-begun : goal.returns-in_err-finish-in-Search-clause-begun
returns-in_err-finish-in-Search-clause-begun g c =
    let p = err_from_is_err_and c.from_residual-in_err-finish-in-Search.result c.from_residual-in_err-finish-in-Search.ensures.1 in
    rw p.1 (λ was held zone.
    first_searched _ (g.S.Sink.contents c.give_hits.new.sink) _ g.S.Sink.written_as (g.M.Matcher.matches c.args.matcher.now) (g.M.Records.delimiter c.args.matcher.now) c.args.number was c.in_ok-piece-in-Search.piece.items c.deref.result.now (g.S.Sink.taken c.give_hits.new.sink) c.args.zone.now
    c.deref.ensures.value (c.in_ok-piece-in-Search.ensures.read was held zone.inside)
    (c.in_ok-hits-in-Search.ensures.taken (rows_of_piece c.has_only_rows.result (g.M.Records.delimiter c.args.matcher.now) (g.M.Records.has_row c.args.matcher.now) (g.M.Records.Describes c.args.matcher.now) was c.in_ok-piece-in-Search.piece.items c.deref.result.now c.args.zone.now c.has_only_rows.ensures zone c.deref.ensures.value (c.in_ok-piece-in-Search.ensures.read was held zone.inside)))
    c.give_hits.ensures.kept c.in_err-finish-in-Search.ensures.begun)

pub returns-in_ok-finish-in-Search-clause-written : goal.returns-in_ok-finish-in-Search-clause-written
returns-in_ok-finish-in-Search-clause-written g c = λ was held zone.
    zone_searched _ (g.S.Sink.contents c.give_hits.new.sink) _ g.S.Sink.written_as (g.M.Matcher.matches c.args.matcher.now) (g.M.Records.delimiter c.args.matcher.now) c.args.number was c.in_ok-piece-in-Search.piece.items c.deref.result.now (g.S.Sink.taken c.give_hits.new.sink) c.args.zone.now
    c.deref.ensures.value (c.in_ok-piece-in-Search.ensures.read was held zone.inside)
    (c.in_ok-hits-in-Search.ensures.taken (rows_of_piece c.has_only_rows.result (g.M.Records.delimiter c.args.matcher.now) (g.M.Records.has_row c.args.matcher.now) (g.M.Records.Describes c.args.matcher.now) was c.in_ok-piece-in-Search.piece.items c.deref.result.now c.args.zone.now c.has_only_rows.ensures zone c.deref.ensures.value (c.in_ok-piece-in-Search.ensures.read was held zone.inside)))
    c.give_hits.ensures.kept c.in_ok-finish-in-Search.ensures.written

pub returns-in_ok-finish-in-Search-clause-found : goal.returns-in_ok-finish-in-Search-clause-found
returns-in_ok-finish-in-Search-clause-found g c = λ was held zone.
    found_counted (g.M.Records.delimiter c.args.matcher.now) (g.M.Matcher.matches c.args.matcher.now) was c.in_ok-piece-in-Search.piece.items c.deref.result.now c.args.zone.now _ c.deref.ensures.value (c.in_ok-piece-in-Search.ensures.read was held zone.inside)
    (c.in_ok-hits-in-Search.ensures.counted (rows_of_piece c.has_only_rows.result (g.M.Records.delimiter c.args.matcher.now) (g.M.Records.has_row c.args.matcher.now) (g.M.Records.Describes c.args.matcher.now) was c.in_ok-piece-in-Search.piece.items c.deref.result.now c.args.zone.now c.has_only_rows.ensures zone c.deref.ensures.value (c.in_ok-piece-in-Search.ensures.read was held zone.inside)))

pub returns-in_ok-finish-in-Search-clause-passed : goal.returns-in_ok-finish-in-Search-clause-passed
returns-in_ok-finish-in-Search-clause-passed g c = λ was held zone searched.
    zone_passed (g.M.Records.is_refused c.args.matcher.now) (g.M.Records.delimiter c.args.matcher.now) was c.in_ok-piece-in-Search.piece.items c.deref.result.now c.args.zone.now c.deref.ensures.value (c.in_ok-piece-in-Search.ensures.read was held zone.inside)
    (c.in_ok-hits-in-Search.ensures.passed (rows_of_piece c.has_only_rows.result (g.M.Records.delimiter c.args.matcher.now) (g.M.Records.has_row c.args.matcher.now) (g.M.Records.Describes c.args.matcher.now) was c.in_ok-piece-in-Search.piece.items c.deref.result.now c.args.zone.now c.has_only_rows.ensures zone c.deref.ensures.value (c.in_ok-piece-in-Search.ensures.read was held zone.inside)))

pub returns-in_err-hits-in-Search-clause-first : goal.returns-in_err-hits-in-Search-clause-first
returns-in_err-hits-in-Search-clause-first g c =
    let p = err_from_is_err_and c.from_residual-in_err-hits-in-Search.result c.from_residual-in_err-hits-in-Search.ensures.1 in
    rw (p.1, p.2) (zone_first (g.M.Records.is_refused c.args.matcher.now) (is_searched (g.M.Matcher.decides c.args.matcher.now) c.args.zone.now ≡ true) c.has_only_rows.result (g.M.Records.delimiter c.args.matcher.now) (g.M.Records.has_row c.args.matcher.now) (g.M.Records.Describes c.args.matcher.now) (g.R.ReadAt.bytes c.args.reader.now) c.in_ok-piece-in-Search.piece.items c.deref.result.now c.args.zone.now c.in_err-hits-in-Search.field-0.0
    c.has_only_rows.ensures c.deref.ensures.value c.in_ok-piece-in-Search.ensures.read (ap is_search (sym c.in_ok-way.ensures.way ∙ c.in-Search.is)) c.in_err-hits-in-Search.ensures.first)
