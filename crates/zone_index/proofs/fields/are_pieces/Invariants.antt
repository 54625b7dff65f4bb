-- Whether the bytes are so many pieces is whether the rest is as many as are left.
use Rattle.std.proofs.Common.{◌≡◌, ◌-◌}
use Rattle.zone_index.proofs.PieceSteps.{reads}
use Rattle.zone_index.proofs.fields.are_pieces.Given as goal

abbrev pub invariant-loop : goal.invariant-loop
invariant-loop l = reads (l.count - l.counter) l.rest ≡ reads l.count l.bytes
