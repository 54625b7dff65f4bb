-- What was searched so far.
use Rattle.std.proofs.Common.{◌≡◌, ◌≤◌, ◌-◌, ◌^◌, List, Some, ℕ}
use Rattle.zone_index.proofs.Refusing.{IsPassed}
use Rattle.zone_index.proofs.Sifting.{IsJudged, SiftedRest}
use Rattle.zone_index.proofs.Rests.{Searched}
use Rattle.zone_index.proofs.streaming.find_rest.Given as goal

abbrev pub invariant-loop-text : goal.invariant-loop-text
invariant-loop-text g l = record {
  searched : (bytes : List ℕ) → g.B.Read.remaining l.initial.reader ≡ Some bytes
      → Searched g.S.Sink.written_as l.start.number (g.M.Records.delimiter l.matcher) (g.M.Matcher.matches l.matcher) bytes (g.B.Read.remaining l.reader) (g.S.Sink.contents l.initial.sink) (g.S.Sink.contents l.sink) l.found l.number;
  behind : (bytes : List ℕ) → g.B.Read.remaining l.initial.reader ≡ Some bytes → IsPassed (g.M.Records.delimiter l.matcher) bytes (g.B.Read.remaining l.reader) l.passed;
  sifted : (bytes : List ℕ) → g.B.Read.remaining l.initial.reader ≡ Some bytes → SiftedRest (g.M.Records.is_refused l.matcher) (g.M.Records.delimiter l.matcher) bytes (g.B.Read.remaining l.reader) l.passed;
  judged : (bytes : List ℕ) → g.B.Read.remaining l.initial.reader ≡ Some bytes → IsJudged (g.M.Records.is_refused l.matcher) (g.M.Records.delimiter l.matcher) bytes (g.B.Read.remaining l.reader);
  few : l.found ≤ l.passed;
}

abbrev pub decreases-loop-text : goal.decreases-loop-text
decreases-loop-text g l = 2 ^ 64 - l.passed
