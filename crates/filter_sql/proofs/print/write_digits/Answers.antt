use Rattle.std.proofs.Common.{rules}
use Rattle.std.proofs.lemmas.List.{drop_more}
use Rattle.vortex_value.proofs.Writes.{left_more}
use Rattle.filter_sql.proofs.print.write_digits.Goals as goal

pub loop-byte-preserved : goal.loop-byte-preserved
loop-byte-preserved g c plain =
    let left = c.loop-byte.invariant plain in
    let written = c.write_two_digits.ensures left.wrote.plain (search rules) in
    left_more _ _ _ _ _ _ _ (rw (drop_more c.args.bytes.now c.loop-byte.byte-index 0 c.loop-byte-test.true) at left) written
