-- The pieces so far.
use Rattle.std.proofs.Common.{◌≡◌, ◌++◌, take}
use Rattle.std.specs.List.{flat_map}
use Rattle.zone_index.specs.Encoding.{bytes_encoding}
use Rattle.zone_members.proofs.pieces.push_blocks.Given as goal

abbrev pub invariant-loop-block : goal.invariant-loop-block
invariant-loop-block l = l.output.items ≡ l.initial.output.items ++ flat_map bytes_encoding (take l.block-index l.blocks)
