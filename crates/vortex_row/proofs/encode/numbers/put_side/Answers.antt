-- The bytes of the number, as its side and the column choose them.
use Rattle.std.proofs.Common.{◌∙◌, ap}
use Rattle.vortex_row.specs.Steps.{inverted_word}
use Rattle.vortex_row.specs.Bytes.{inverted_byte}
use Rattle.vortex_row.proofs.SlotSteps.{side-slot, side-writes}
use Rattle.vortex_row.proofs.encode.numbers.put_side.Goals as goal

pub put_used-requires-clause-room : goal.put_used-requires-clause-room
put_used-requires-clause-room c =
    side-slot c.args.is_below c.args.distance c.leading_zero_bytes-unused.result c.inverted_if-first.result c.inverted_word-word.result c.args.place c.args.room.now c.leading_zero_bytes-unused.ensures.count c.requires

pub returns : goal.returns
returns c =
    side-writes c.args.is_below c.args.invert c.args.distance c.leading_zero_bytes-unused.result c.inverted_if-first.result c.inverted_word-word.result
    c.args.place c.put_used.result c.args.room.now c.put_used.new.room c.ranges.distance.fits
    c.leading_zero_bytes-unused.ensures.count c.leading_zero_bytes-unused.ensures.bytes
    (c.inverted_if-first.ensures ∙ ap (inverted_byte c.args.invert) c.side_byte.ensures)
    (c.inverted_word-word.ensures ∙ ap (λ b. inverted_word b c.args.distance) c.inverted_again.ensures)
    c.put_used.ensures
