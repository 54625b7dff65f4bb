-- A zone more, and all of them.
use Rattle.std.proofs.Common.{rules, arith, refl, sym, ap, subst, ℕ, List, Option, take}
use Rattle.std.proofs.lemmas.Result.{err_from_is_err_and}
use Rattle.std.specs.Io.KnownBytes.{Appends}
use Rattle.zone_index.specs.Sinks.{WritesFirst, written_in, written_of}
use Rattle.zone_index.specs.Zones.{IsHeld, IsZoneOf, found_in, is_copied, is_copy, is_search, is_searched, is_skip, is_skipped, zone_records}
use Rattle.zone_index.proofs.Finding.{asks_zone, at_item, capped_all, capped_more, counted_more, counted_whole, cut_in_zone, far_in_zone}
use Rattle.zone_index.proofs.Rests.{appends-kept}
use Rattle.zone_index.proofs.Refusing.{refused_in_zone}
use Rattle.zone_index.proofs.Sifting.{first_in_zones, zone_sifted, zones_sifted}
use Rattle.zone_index.proofs.Sinking.{first_in_zone, first_of_all, found_written, kept_written, number_more, written_more, written_whole}
use Rattle.zone_index.proofs.search.find.Goals as goal

pub loop-zone-preserved : goal.loop-zone-preserved
loop-zone-preserved g c =
    let before = c.loop-zone.invariant in
    let zones = c.args.zones.now in
    let i = c.loop-zone.zone-index in
    let item = c.zone-item.result in
    let keep = g.M.Matcher.matches c.args.matcher.now in
    let decides = g.M.Matcher.decides c.args.matcher.now in
    let d = g.M.Records.delimiter c.args.matcher.now in
    let has_row = g.M.Records.has_row c.args.matcher.now in
    let Describes = g.M.Records.Describes c.args.matcher.now in
    record {
      same = search rules;
      written = λ was held right. written_more _ _ _ g.S.Sink.written_as keep d has_row Describes was zones i item c.args.first c.loop-zone.number (search rules) c.zone-item.is right before.number (before.written was held right)
          (c.in_ok-way.ensures.written was (subst (λ (known : Option (List ℕ)). IsHeld known was) (sym before.same) held) (at_item (IsZoneOf d has_row Describes was) zones i item (search rules) c.zone-item.is right));
      number = number_more c.args.first c.loop-zone.number c.saturating_add-number.result zones i item (search rules) c.zone-item.is before.number c.saturating_add-number.ensures;
      skipped = counted_more (is_skipped decides) zones i c.loop-zone.tally.skipped c.add.new.self.skipped item (is_skip c.in_ok-way.way) (search rules) c.zone-item.is (ap is_skip (sym c.in_ok-way.ensures.way)) before.skipped c.add.ensures.skipped;
      copied = counted_more (is_copied decides) zones i c.loop-zone.tally.copied c.add.new.self.copied item (is_copy c.in_ok-way.way) (search rules) c.zone-item.is (ap is_copy (sym c.in_ok-way.ensures.way)) before.copied c.add.ensures.copied;
      searched = counted_more (is_searched decides) zones i c.loop-zone.tally.searched c.add.new.self.searched item (is_search c.in_ok-way.way) (search rules) c.zone-item.is (ap is_search (sym c.in_ok-way.ensures.way)) before.searched c.add.ensures.searched;
      few = omega (arith, c.add.ensures.sum, before.few);
      asks = asks_zone decides zones i item _ (g.R.ReadAt.asked c.loop-zone.reader) _ (search rules) c.zone-item.is before.asks c.in_ok-way.ensures.asks;
      sifted = λ was held right. zone_sifted (g.M.Records.is_refused c.args.matcher.now) (is_searched decides) (zone_records d was) zones i item (search rules) c.zone-item.is (before.sifted was held right)
          (c.in_ok-way.ensures.passed was (subst (λ (known : Option (List ℕ)). IsHeld known was) (sym before.same) held) (at_item (IsZoneOf d has_row Describes was) zones i item (search rules) c.zone-item.is right));
      found = λ was held right. capped_more d keep was zones i c.loop-zone.tally.found c.in_ok-way.found c.add.new.self.found item (search rules) c.zone-item.is (before.found was held right)
          (c.in_ok-way.ensures.found was (subst (λ (known : Option (List ℕ)). IsHeld known was) (sym before.same) held) (at_item (IsZoneOf d has_row Describes was) zones i item (search rules) c.zone-item.is right)) c.add.ensures.found;
    }

pub returns-in_err-way-clause-asks : goal.returns-in_err-way-clause-asks
returns-in_err-way-clause-asks g c =
    asks_zone (g.M.Matcher.decides c.args.matcher.now) c.args.zones.now c.loop-zone.zone-index c.zone-item.result _ (g.R.ReadAt.asked c.loop-zone.reader) _ (search rules) c.zone-item.is c.loop-zone.invariant.asks c.in_err-way.ensures.asks

pub returns-in_err-way-clause-answer : goal.returns-in_err-way-clause-answer
returns-in_err-way-clause-answer g c =
    let p = err_from_is_err_and c.from_residual.result c.from_residual.ensures.1 in
    let before = c.loop-zone.invariant in
    let zones = c.args.zones.now in
    let i = c.loop-zone.zone-index in
    let item = c.zone-item.result in
    let f = g.S.Sink.written_as in
    let keep = g.M.Matcher.matches c.args.matcher.now in
    let d = g.M.Records.delimiter c.args.matcher.now in
    let has_row = g.M.Records.has_row c.args.matcher.now in
    let Describes = g.M.Records.Describes c.args.matcher.now in
    rw (p.1, p.2) (record {
      written = tt;
      plain = tt;
      found = tt;
      passed = tt;
      skipped = tt;
      copied = tt;
      searched = tt;
      partial = λ other was start held index. (i, subst (λ (o : Option (List ℕ)). Appends (g.S.Sink.contents c.args.sink.now) o (written_in f keep c.args.first d was (take i zones))) (sym (c.in_err-way.ensures.untouched other)) (before.written was held index.right));
      partial_plain = λ other plain was start held index. (i, subst (λ (o : Option (List ℕ)). Appends (g.S.Sink.contents c.args.sink.now) o (found_in d keep was (take i zones))) (sym (c.in_err-way.ensures.untouched other)) (found_written _ _ f keep c.args.first d was (take i zones) plain (before.written was held index.right)));
      begun = λ was start held index. subst (WritesFirst (g.S.Sink.contents c.args.sink.now) (g.S.Sink.contents c.answer_zone.new.sink)) (ap (written_of f keep c.args.first) (sym index.records))
          (first_in_zone _ _ _ f keep d has_row Describes was zones i item c.args.first c.loop-zone.number (search rules) c.zone-item.is index.right before.number (before.written was held index.right)
          (c.in_err-way.ensures.begun was (subst (λ (known : Option (List ℕ)). IsHeld known was) (sym before.same) held) (at_item (IsZoneOf d has_row Describes was) zones i item (search rules) c.zone-item.is index.right)));
      stops = record {
        cut = λ short. cut_in_zone d has_row Describes _ (g.R.ReadAt.bytes c.loop-zone.reader) zones i item (search rules) c.zone-item.is before.same (c.in_err-way.ensures.cut short);
        far = λ past was start index. far_in_zone d has_row Describes zones i item was start (search rules) c.zone-item.is (c.in_err-way.ensures.far past) index;
        refused = refused_in_zone (g.M.Records.Refuses c.args.matcher.now) d has_row Describes _ _ zones i item c.in_err-way.field-0.0 (search rules) c.zone-item.is before.same c.in_err-way.ensures.refused;
        first = first_in_zones (g.M.Records.is_refused c.args.matcher.now) (is_searched (g.M.Matcher.decides c.args.matcher.now)) d has_row Describes _ _ zones i item c.in_err-way.field-0.0 (search rules) c.zone-item.is before.same before.sifted c.in_err-way.ensures.first;
      };
    })

pub returns-clause-answer : goal.returns-clause-answer
returns-clause-answer g c =
    let before = c.loop-zone.invariant in
    let zones = c.args.zones.now in
    let i = c.loop-zone.zone-index in
    let f = g.S.Sink.written_as in
    let keep = g.M.Matcher.matches c.args.matcher.now in
    let decides = g.M.Matcher.decides c.args.matcher.now in
    let d = g.M.Records.delimiter c.args.matcher.now in
    let has_row = g.M.Records.has_row c.args.matcher.now in
    let Describes = g.M.Records.Describes c.args.matcher.now in
    record {
      written = λ was start held index. appends-kept _ (g.S.Sink.contents c.loop-zone.sink) _ _ (written_whole _ _ f keep d has_row Describes start c.args.first zones was i (search rules) index (before.written was held index.right)) c.in_ok-flush.ensures.kept;
      plain = λ plain was start held index. kept_written _ _ f keep c.args.first _ plain (appends-kept _ (g.S.Sink.contents c.loop-zone.sink) _ _ (written_whole _ _ f keep d has_row Describes start c.args.first zones was i (search rules) index (before.written was held index.right)) c.in_ok-flush.ensures.kept);
      found = λ was start held index. capped_all d has_row Describes keep start zones was i c.loop-zone.tally.found (search rules) index (before.found was held index.right);
      passed = λ was start held index. zones_sifted (g.M.Records.is_refused c.args.matcher.now) (is_searched decides) (zone_records d was) zones i (search rules) (before.sifted was held index.right);
      skipped = counted_whole (is_skipped decides) zones i c.loop-zone.tally.skipped (search rules) before.skipped;
      copied = counted_whole (is_copied decides) zones i c.loop-zone.tally.copied (search rules) before.copied;
      searched = counted_whole (is_searched decides) zones i c.loop-zone.tally.searched (search rules) before.searched;
      partial = tt;
      partial_plain = tt;
      begun = tt;
      stops = tt;
    }

pub returns-in_err-flush-clause-answer : goal.returns-in_err-flush-clause-answer
returns-in_err-flush-clause-answer g c =
    let p = err_from_is_err_and c.from_residual-in_err-flush.result c.from_residual-in_err-flush.ensures.1 in
    let before = c.loop-zone.invariant in
    let zones = c.args.zones.now in
    let i = c.loop-zone.zone-index in
    let f = g.S.Sink.written_as in
    let keep = g.M.Matcher.matches c.args.matcher.now in
    let d = g.M.Records.delimiter c.args.matcher.now in
    let has_row = g.M.Records.has_row c.args.matcher.now in
    let Describes = g.M.Records.Describes c.args.matcher.now in
    let failed = c.in_err-flush.ensures.fault in
    rw (p.1, p.2, failed) (record {
      written = tt;
      plain = tt;
      found = tt;
      passed = tt;
      skipped = tt;
      copied = tt;
      searched = tt;
      partial = λ other. absurd (other refl);
      partial_plain = λ other. absurd (other refl);
      begun = λ was start held index. first_of_all _ _ _ (appends-kept _ (g.S.Sink.contents c.loop-zone.sink) _ _ (written_whole _ _ f keep d has_row Describes start c.args.first zones was i (search rules) index (before.written was held index.right)) c.flush.ensures.kept);
      stops = record { cut = λ short. absurd cc; far = λ past. absurd cc; refused = tt; first = tt };
    })
