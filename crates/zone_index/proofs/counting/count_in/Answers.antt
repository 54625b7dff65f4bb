-- A record more.
use Rattle.std.proofs.Common.{rules, arith, count_by}
use Rattle.std.proofs.lemmas.Grind.{common_steps}
use Rattle.csv_records.specs.Records.{records_of}
use Rattle.zone_index.proofs.Answering.{hit_more, row_here, rows_after}
use Rattle.zone_index.proofs.Refusing.{reached_more_at}
use Rattle.zone_index.proofs.Sifting.{sifted_more}
use Rattle.zone_index.proofs.counting.count_in.Goals as goal

pub loop-rest-preserved : goal.loop-rest-preserved
loop-rest-preserved g c =
    let d = g.M.Records.delimiter c.args.matcher.now in
    let e = c.delimiter_byte.result.byte in
    let rest = c.loop-rest.rest.now in
    let line = c.cut_record.result.0.now in
    let after = c.cut_record.result.1.now in
    let by = c.delimiter_byte.ensures in
    let cut = c.cut_record.ensures.records in
    let before = c.loop-rest.invariant in
    let here = row_here c.args.are_rows (g.M.Records.has_row c.args.matcher.now) d e rest line after by cut in
    let after_rows = rows_after c.args.are_rows (g.M.Records.has_row c.args.matcher.now) d e rest line after by cut in (
      λ all. hit_more d e (g.M.Matcher.matches c.args.matcher.now) rest line after c.loop-rest.hits (count_by (g.M.Matcher.matches c.args.matcher.now) (records_of d c.args.text.now)) c.one_more-hits.result c.in_ok-hit.hit by cut (c.in_ok-hit.ensures.hit (here (before.4 all))) (before.0 all) c.one_more-hits.ensures,
      first_of (search rules, grind (arith, common_steps)),
      λ all. sifted_more (g.M.Records.is_refused c.args.matcher.now) d e c.args.text.now rest line after (before.2 all) by cut c.cut_record.ensures.parts (c.in_ok-hit.ensures.passed (here (before.4 all))),
      reached_more_at d e c.args.text.now rest line after before.3 by cut c.cut_record.ensures.parts,
      λ all. after_rows (before.4 all),
    )
