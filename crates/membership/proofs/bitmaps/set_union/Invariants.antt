-- The bytes so far are those of both, and the others as they were.
use Rattle.std.proofs.Common.{◌≡◌, ◌<◌, ◌≤◌, ℕ, get_or}
use Rattle.std.specs.Int.Bits.{bit_or}
use Rattle.membership.proofs.bitmaps.set_union.Given as goal

abbrev pub invariant-loop-i : goal.invariant-loop-i
invariant-loop-i l = ((k : ℕ) → k < l.i → get_or l.filter k 0 ≡ bit_or (get_or l.initial.filter k 0) (get_or l.other k 0)) × ((k : ℕ) → l.i ≤ k → get_or l.filter k 0 ≡ get_or l.initial.filter k 0)
