-- A record more, which matches.
use Rattle.std.proofs.Common.{◌++◌, arith, refl, rules, true}
use Rattle.csv_records.specs.Records.{records_of}
use Rattle.zone_index.specs.Sinks.{written_of}
use Rattle.zone_index.proofs.Sinking.{given_more}
use Rattle.zone_index.proofs.sinks.Sink.all_matched.Goals as goal

pub loop-rest-preserved : goal.loop-rest-preserved
loop-rest-preserved g c =
    let d = c.args.delimiter.byte in
    let total = g.Self.Sink.taken c.args.self.now ++ written_of g.Self.Sink.written_as (λ _. true) c.args.first (records_of d c.args.lines.items) in
    record {
      taken = given_more g.Self.Sink.written_as (λ _. true) d d c.loop-rest.rest.now c.cut_record.result.0.now c.cut_record.result.1.now (g.Self.Sink.taken c.loop-rest.self) (g.Self.Sink.taken c.matched.new.self) total c.loop-rest.number c.saturating_add-number.result true refl c.cut_record.ensures.records refl c.loop-rest.invariant.fits c.saturating_add-number.ensures c.in_ok-matched.ensures.taken c.loop-rest.invariant.taken;
      kept = search rules;
      fits = omega (arith, c.saturating_add-number.ensures);
    }
