-- What is left is for the other zones.
use Rattle.std.proofs.Common.{◌≡◌, ◌+◌, sum_by, take}
use Rattle.vortex_c.proofs.index_zones.have_length.Given as goal

abbrev pub invariant-loop-zone : goal.invariant-loop-zone
invariant-loop-zone l = sum_by (λ z. z.statistics) (take l.zone-index l.zones) + l.left ≡ l.fn.count
