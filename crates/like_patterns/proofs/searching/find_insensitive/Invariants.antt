-- So far the bytes stand nowhere.
use Rattle.std.proofs.Common.{◌-◌, length}
use Rattle.like_patterns.proofs.InsensitiveSearch.{NotBefore}
use Rattle.like_patterns.proofs.searching.find_insensitive.Given as goal

abbrev pub invariant-loop-step : goal.invariant-loop-step
invariant-loop-step l = NotBefore l.text l.wanted l.place

abbrev pub decreases-loop-step : goal.decreases-loop-step
decreases-loop-step l = length l.text - l.place
