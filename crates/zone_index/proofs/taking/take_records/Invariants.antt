-- What was taken so far. With as many records as were asked for, another one may start.
use Rattle.std.proofs.Common.{◌≡◌, ◌<◌, ◌≤◌, ◌-◌, ◌^◌, ℕ, List, Some, true, vec_len}
use Rattle.csv_records.specs.Records.{is_start, state_at}
use Rattle.zone_index.proofs.TakeMore.{Taking}
use Rattle.zone_index.proofs.taking.take_records.Given as goal

abbrev pub invariant-loop-taken : goal.invariant-loop-taken
invariant-loop-taken g l = record {
  text : (bytes : List ℕ) → g.B.Read.remaining l.initial.reader ≡ Some bytes → Taking l.delimiter.byte bytes l.text.items (g.B.Read.remaining l.reader) (state_at l.state) l.taken;
  few : l.taken ≤ l.size;
  some : 0 < l.taken → 0 < vec_len l.text;
  whole : l.taken ≡ l.size → is_start (state_at l.state) ≡ true;
}

abbrev pub decreases-loop-taken : goal.decreases-loop-taken
decreases-loop-taken g l = 2 ^ 64 - vec_len l.text
