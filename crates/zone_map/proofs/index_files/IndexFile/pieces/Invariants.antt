-- The bytes of the ranges so far.
use Rattle.std.proofs.Common.{◌≡◌, ℕ, List, Some, length, take}
use Rattle.zone_scans.specs.Ranges.{bytes_of}
use Rattle.zone_map.proofs.index_files.IndexFile.pieces.Given as goal

abbrev pub invariant-loop-range : goal.invariant-loop-range
invariant-loop-range g l = record {
  kept : g.R.ReadAt.bytes l.self.reader ≡ g.R.ReadAt.bytes l.initial.self.reader;
  long : l.self.length ≡ l.initial.self.length;
  read : (xs : List ℕ) → g.R.ReadAt.bytes l.initial.self.reader ≡ Some xs → length xs ≡ l.initial.self.length → l.bytes.items ≡ bytes_of xs (take l.range-index l.ranges);
}
