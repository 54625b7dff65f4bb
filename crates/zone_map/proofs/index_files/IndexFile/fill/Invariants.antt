-- What was filled so far is what stands there.
use Rattle.std.proofs.Common.{◌≡◌, ◌≤◌, ◌-◌, ℕ, List, Some, length, take, drop}
use Rattle.zone_map.proofs.index_files.IndexFile.fill.Given as goal

abbrev pub invariant-loop-done : goal.invariant-loop-done
invariant-loop-done g l = record {
  within : l.done ≤ length l.into;
  kept : g.R.ReadAt.bytes l.self.reader ≡ g.R.ReadAt.bytes l.initial.self.reader;
  filled : (xs : List ℕ) → g.R.ReadAt.bytes l.initial.self.reader ≡ Some xs → take l.done l.into ≡ take l.done (drop l.place xs);
  long : l.self.length ≡ l.initial.self.length;
}

abbrev pub decreases-loop-done : goal.decreases-loop-done
decreases-loop-done g l = length l.initial.into - l.done
