use Rattle.std.proofs.Common.{codes, refl, rules}
use Rattle.std.proofs.lemmas.List.{drop_more}
use Rattle.vortex_value.proofs.Writes.{left_part}
use Rattle.vortex_value.proofs.display.leaves.write_spaced.Goals as goal

pub loop-index-preserved : goal.loop-index-preserved
loop-index-preserved g c plain =
    let i = c.loop-index.index in
    let left = rw (drop_more c.args.bytes.now i 0 c.loop-index-test.true) at (c.loop-index.invariant plain) in
    let separator = c.in_ok-write_separator.ensures left.wrote.plain refl in
    let byte = c.write_hexadecimal.ensures separator.plain (search rules) in
    left_part _ i _ _ _ _ (codes " ") _ _ _ _ left separator refl byte
