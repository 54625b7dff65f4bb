-- What was taken so far and what is to be taken of the rest are what is to be taken of all.
use Rattle.std.proofs.Common.{◌≡◌, ◌<◌, ◌++◌, ◌^◌, length, true}
use Rattle.csv_records.specs.Records.{records_of}
use Rattle.zone_index.specs.Sinks.{written_of}
use Rattle.zone_index.proofs.sinks.Sink.all_matched.Given as goal

abbrev pub invariant-loop-rest : goal.invariant-loop-rest
invariant-loop-rest g l = record {
  taken : g.Self.Sink.taken l.self ++ written_of g.Self.Sink.written_as (λ _. true) l.number (records_of l.delimiter.byte l.rest)
      ≡ g.Self.Sink.taken l.initial.self ++ written_of g.Self.Sink.written_as (λ _. true) l.first (records_of l.delimiter.byte l.fn.lines.items);
  kept : g.Self.Sink.contents l.self ≡ g.Self.Sink.contents l.initial.self;
  fits : l.number < 2 ^ 64;
}

abbrev pub decreases-loop-rest : goal.decreases-loop-rest
decreases-loop-rest g l = length l.rest
