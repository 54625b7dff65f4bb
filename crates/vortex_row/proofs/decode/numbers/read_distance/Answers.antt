-- The bytes of the distance, inverted once more if the number is below 0.
use Rattle.std.proofs.Common.{refl, arith}
use Rattle.vortex_row.proofs.NumberSteps.{distance-read, distance-stuck, distance-within}
use Rattle.vortex_row.proofs.decode.numbers.read_distance.Goals as goal
use Rattle.vortex_row.proofs.ByteLaws.{inverted-length}

pub advance-requires : goal.advance-requires
advance-requires c =
    let there = distance-within c.args.form.width c.args.form.limit c.in-Ok.number _ c.in-Ok.ensures.read in
    let one = inverted-length c.inverted_again-invert.result c.args.reader.now.rest.now in
    let two = inverted-length c.args.reader.now.invert c.args.reader.now.rest.now in
    omega arith

pub advance-requires-in-Err : goal.advance-requires-in-Err
advance-requires-in-Err c =
    let there = c.in-Err.ensures.within in
    let two = inverted-length c.args.reader.now.invert c.args.reader.now.rest.now in
    omega arith

pub returns-in-Ok : goal.returns-in-Ok
returns-in-Ok c =
    distance-read c.args.reader.now.invert c.args.form.below c.inverted_again-invert.result c.args.form.width c.args.form.limit c.in-Ok.number c.args.reader.now.rest.now _ _ c.are_bytes.ensures c.inverted_again-invert.ensures refl
    c.advance.ensures c.in-Ok.ensures.read

pub returns-in-Err : goal.returns-in-Err
returns-in-Err c =
    distance-stuck c.args.reader.now.invert c.args.form.below c.inverted_again-invert.result c.args.form.width c.args.form.limit c.in-Err.place c.args.reader.now.rest.now _ _ c.are_bytes.ensures c.inverted_again-invert.ensures refl
    c.advance-in-Err.ensures c.in-Err.ensures.read
