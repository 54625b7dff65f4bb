-- A record more, the first that is refused, and the last one.
use Rattle.std.proofs.Common.{◌≡◌, [], arith, refl, rules, sym, ◌∙◌}
use Rattle.std.proofs.lemmas.Grind.{common_steps}
use Rattle.std.proofs.lemmas.List.{nil_from_length}
use Rattle.zone_scans.proofs.FindSteps.{first_of_text, judged_more, judged_none, kept_more, refused_next, searched_all, searched_cut, searched_full, told_of}
use Rattle.zone_scans.proofs.finding.find_records_until_fault.Goals as goal

pub loop-rest-init : goal.loop-rest-init
loop-rest-init g c = record {
  judged = judged_none (g.M.Records.delimiter c.args.matcher.now) (g.M.Matcher.matches c.args.matcher.now) (g.M.Records.is_refused c.args.matcher.now) c.args.start c.args.text.now c.args.is_end c.args.found.now (omega arith) (omega arith);
  within = omega arith;
  kept = refl;
  long = refl;
}

pub loop-rest-preserved : goal.loop-rest-preserved
loop-rest-preserved g c = record {
  judged = judged_more (g.M.Records.delimiter c.args.matcher.now) c.delimiter_byte.result.byte (g.M.Matcher.matches c.args.matcher.now) (g.M.Records.is_refused c.args.matcher.now) c.args.start c.args.text.now c.args.is_end c.loop-rest.rest.now c.cut_record.result.0.now c.cut_record.result.1.now c.loop-rest.found c.put_record-count.new.found c.loop-rest.count c.put_record-count.result c.loop-rest.next c.position_after-next.result c.in-Ok.is_hit c.loop-rest.invariant.judged c.delimiter_byte.ensures c.cut_record.ensures.records c.cut_record.ensures.parts (c.is_cut.ensures.no c.if-is_cut.false) c.in-Ok.ensures.hit c.in-Ok.ensures.passed c.put_record-count.ensures.put c.position_after-next.ensures;
  within = c.put_record-count.ensures.fits;
  kept = kept_more c.loop-rest.count c.put_record-count.result c.args.found.now c.loop-rest.found c.put_record-count.new.found c.put_record-count.ensures.grows c.loop-rest.invariant.kept c.put_record-count.ensures.rest;
  long = c.put_record-count.ensures.long ∙ c.loop-rest.invariant.long;
}

pub returns-in-Err-clause-refused : goal.returns-in-Err-clause-refused
returns-in-Err-clause-refused g c = told_of (g.M.Records.Refuses c.args.matcher.now) (g.M.Records.delimiter c.args.matcher.now) c.delimiter_byte.result.byte (g.M.Matcher.matches c.args.matcher.now) (g.M.Records.is_refused c.args.matcher.now) c.args.start c.args.text.now c.args.is_end c.loop-rest.rest.now c.cut_record.result.0.now c.cut_record.result.1.now c.loop-rest.found c.loop-rest.count c.loop-rest.next c.in-Err.fault c.loop-rest.invariant.judged c.delimiter_byte.ensures c.cut_record.ensures.records c.in-Err.ensures.refused

pub returns-in-Err-clause-first : goal.returns-in-Err-clause-first
returns-in-Err-clause-first g c = first_of_text (g.M.Records.Refuses c.args.matcher.now) (g.M.Records.delimiter c.args.matcher.now) c.delimiter_byte.result.byte (g.M.Matcher.matches c.args.matcher.now) (g.M.Records.is_refused c.args.matcher.now) c.args.start c.args.text.now c.args.is_end c.loop-rest.rest.now c.cut_record.result.0.now c.cut_record.result.1.now c.loop-rest.found c.loop-rest.count c.loop-rest.next c.in-Err.fault c.loop-rest.invariant.judged c.delimiter_byte.ensures c.cut_record.ensures.records c.in-Err.ensures.refused c.in-Err.ensures.right

pub returns-in-Err-clause-part : goal.returns-in-Err-clause-part
returns-in-Err-clause-part g c = record {
  rest = c.loop-rest.rest.now;
  judged = c.loop-rest.invariant.judged;
  refused = refused_next (g.M.Records.Refuses c.args.matcher.now) (g.M.Records.delimiter c.args.matcher.now) c.delimiter_byte.result.byte (g.M.Records.is_refused c.args.matcher.now) c.args.is_end c.loop-rest.rest.now c.cut_record.result.0.now c.cut_record.result.1.now c.loop-rest.next c.in-Err.fault c.delimiter_byte.ensures c.cut_record.ensures.records c.cut_record.ensures.parts (c.is_cut.ensures.no c.if-is_cut.false) c.in-Err.ensures.refused c.in-Err.ensures.right;
  within = c.loop-rest.invariant.within;
  kept = c.loop-rest.invariant.kept;
}

pub returns-then-lacks_room-clause-searched : goal.returns-then-lacks_room-clause-searched
returns-then-lacks_room-clause-searched g c =
    let full = c.lacks_room.ensures.yes c.if-lacks_room.true in
    rw c.ended-then-lacks_room.ensures (searched_full (g.M.Records.delimiter c.args.matcher.now) c.delimiter_byte.result.byte (g.M.Matcher.matches c.args.matcher.now) (g.M.Records.is_refused c.args.matcher.now) c.args.start c.args.text.now c.args.is_end c.loop-rest.rest.now c.cut_record.result.0.now c.cut_record.result.1.now c.loop-rest.found (record { count = c.loop-rest.count; next = c.loop-rest.next }) c.loop-rest.invariant.judged c.delimiter_byte.ensures c.cut_record.ensures.records (sym c.in-Ok.ensures.hit ∙ full.0) full.1)

pub returns-clause-searched : goal.returns-clause-searched
returns-clause-searched g c =
    let ended : c.loop-rest.rest.now ≡ [] = first_of (search (rules, nil_from_length), grind (arith, common_steps, nil_from_length)) in
    rw c.ended-2.ensures (searched_all (g.M.Records.delimiter c.args.matcher.now) (g.M.Matcher.matches c.args.matcher.now) (g.M.Records.is_refused c.args.matcher.now) c.args.start c.args.text.now c.args.is_end c.loop-rest.rest.now c.loop-rest.found (record { count = c.loop-rest.count; next = c.loop-rest.next }) c.loop-rest.invariant.judged ended)

pub returns-then-is_cut-clause-searched : goal.returns-then-is_cut-clause-searched
returns-then-is_cut-clause-searched g c =
    rw c.ended.ensures (searched_cut (g.M.Records.delimiter c.args.matcher.now) c.delimiter_byte.result.byte (g.M.Matcher.matches c.args.matcher.now) (g.M.Records.is_refused c.args.matcher.now) c.args.start c.args.text.now c.args.is_end c.loop-rest.rest.now c.cut_record.result.0.now c.cut_record.result.1.now c.loop-rest.found (record { count = c.loop-rest.count; next = c.loop-rest.next }) c.loop-rest.invariant.judged c.delimiter_byte.ensures c.cut_record.ensures.records c.cut_record.ensures.parts (c.is_cut.ensures.yes c.if-is_cut.true))
