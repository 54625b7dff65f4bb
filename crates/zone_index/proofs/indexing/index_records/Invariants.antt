-- The zones so far are an index of what was taken, of so many records each, and the nulls and the longer records are counted.
use Rattle.std.proofs.Common.{◌≡◌, ◌≤◌, ◌<◌, ◌++◌, ◌-◌, ◌^◌, ℕ, List, Some, length}
use Rattle.zone_index.proofs.Begun.{IsBegun}
use Rattle.zone_index.proofs.Sifting.{SiftedRest}
use Rattle.zone_index.proofs.Sizing.{AreSized, Summed}
use Rattle.zone_index.proofs.indexing.index_records.Given as goal

abbrev pub invariant-loop-text : goal.invariant-loop-text
invariant-loop-text g l = record {
  right : (before bytes : List ℕ) → length before ≡ l.start → g.B.Read.remaining l.initial.reader ≡ Some bytes
      → IsBegun (g.D.Records.delimiter l.describer) (g.D.Records.has_row l.describer) (g.D.Records.Describes l.describer) l.start l.zones.items (before ++ bytes) (g.B.Read.remaining l.reader) l.first;
  full : (before bytes : List ℕ) → length before ≡ l.start → g.B.Read.remaining l.initial.reader ≡ Some bytes
      → IsBegun (g.D.Records.delimiter l.describer) (g.D.Records.has_row l.describer) (g.D.Describer.DescribesFully l.describer) l.start l.zones.items (before ++ bytes) (g.B.Read.remaining l.reader) l.first;
  sizes : (bytes : List ℕ) → g.B.Read.remaining l.initial.reader ≡ Some bytes → AreSized l.size l.zones.items (g.B.Read.remaining l.reader);
  nulls : (bytes : List ℕ) → g.B.Read.remaining l.initial.reader ≡ Some bytes → Summed (g.D.Records.delimiter l.describer) (g.D.Describer.nulls_of l.describer) bytes (g.B.Read.remaining l.reader) l.nulls;
  longer : (bytes : List ℕ) → g.B.Read.remaining l.initial.reader ≡ Some bytes → Summed (g.D.Records.delimiter l.describer) (g.D.Describer.longer_of l.describer) bytes (g.B.Read.remaining l.reader) l.longer;
  sifted : (bytes : List ℕ) → g.B.Read.remaining l.initial.reader ≡ Some bytes → SiftedRest (g.D.Records.is_refused l.describer) (g.D.Records.delimiter l.describer) bytes (g.B.Read.remaining l.reader) (l.first - l.start);
  onward : l.start ≤ l.first;
  fits : l.first < 2 ^ 64;
}

abbrev pub decreases-loop-text : goal.decreases-loop-text
decreases-loop-text g l = 2 ^ 64 - l.first
