-- So many so far.
use Rattle.std.proofs.Common.{◌≡◌, [], map}
use Rattle.zone_index.specs.Encoding.{blocks_of}
use Rattle.zone_index.proofs.writing.empty_blocks.Given as goal

abbrev pub invariant-loop : goal.invariant-loop
invariant-loop l = map (λ b. b.items) l.blocks.items ≡ blocks_of l.counter []
