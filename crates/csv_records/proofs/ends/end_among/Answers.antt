-- The lowest mark is the first byte that ends a field, and without a mark there is none.
use Rattle.std.proofs.Common.{arith}
use Rattle.std.proofs.lemmas.Simd.{length-chunk}
use Rattle.std.specs.Simd.Lanes.{chunk}
use Rattle.memchr.specs.Find.{is_byte3}
use Rattle.csv_records.proofs.Marks.{first_marked, marks_of, none_marked}
use Rattle.csv_records.proofs.ends.end_among.Goals as goal

pub returns-then-marks-eq0 : goal.returns-then-marks-eq0
returns-then-marks-eq0 c =
    let d = c.args.delimiter.byte in
    let text = c.args.text.now in
    let place = c.args.place in
    none_marked (is_byte3 d 13 10) text place _ c.requires (marks_of d 13 10 16 (chunk place 16 text) (length-chunk place 16 text c.requires) (omega arith)) c.if-marks-eq0.true

pub returns-else-marks-eq0 : goal.returns-else-marks-eq0
returns-else-marks-eq0 c =
    let d = c.args.delimiter.byte in
    let text = c.args.text.now in
    let place = c.args.place in
    first_marked (is_byte3 d 13 10) text place _ c.requires (marks_of d 13 10 16 (chunk place 16 text) (length-chunk place 16 text c.requires) (omega arith)) c.if-marks-eq0.false
