-- The blocks so far were told.
use Rattle.std.proofs.Common.{◌≡◌, ◌++◌, ◌<◌, ◌^◌, length, map, take}
use Rattle.std.specs.List.{flat_map, AllByRecursion}
use Rattle.zone_index.specs.Encoding.{block_encoding, block_of}
use Rattle.zone_index.proofs.writing.push_blocks.Given as goal

abbrev pub invariant-loop-block : goal.invariant-loop-block
invariant-loop-block l = (l.output.items ≡ l.initial.output.items ++ flat_map block_encoding (map block_of (map (λ b. b.items) (take l.block-index l.blocks)))) × AllByRecursion (λ b. length b < 2 ^ 64) (map (λ b. b.items) (take l.block-index l.blocks))
