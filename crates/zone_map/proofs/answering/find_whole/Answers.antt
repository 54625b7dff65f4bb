-- A flush keeps what was written.
use Rattle.zone_map.proofs.Flushing.{whole_flushed}
use Rattle.zone_map.proofs.answering.find_whole.Goals as goal

pub returns : goal.returns
returns g c =
    let matcher = c.args.matcher.now in
    let found = c.find_rest-found.ensures in
    record {
      answer = whole_flushed (g.M.Records.Refuses matcher) (g.M.Records.is_refused matcher) (g.M.Records.delimiter matcher) (g.M.Matcher.matches matcher) g.S.Sink.written_as c.args.start (g.B.Read.remaining c.args.reader.now) (g.S.Sink.contents c.args.sink.now) (g.S.Sink.contents c.find_rest-found.new.sink) _ c.find_rest-found.result _ c.flush.result
          (record {
            written = rw (c.first_row.ensures.number) at found.written;
            rows = found.found;
            passed = found.passed;
            partial = rw (c.first_row.ensures.number) at found.partial;
            begun = rw (c.first_row.ensures.number) at found.begun;
            refused = rw (c.first_row.ensures.place) at found.refused;
            first = rw (c.first_row.ensures.place) at found.first;
          })
          c.flush.ensures.kept c.flush.ensures.fault c.flushed.ensures.done c.flushed.ensures.failed;
    }
