-- The blocks so far were appended.
use Rattle.std.proofs.Common.{◌≡◌, ◌++◌, map, take}
use Rattle.std.specs.List.{concat}
use Rattle.zone_index.proofs.writing.push_all.Given as goal

abbrev pub invariant-loop-block : goal.invariant-loop-block
invariant-loop-block l = l.output.items ≡ l.initial.output.items ++ concat (map (λ b. b.items) (take l.block-index l.blocks))
