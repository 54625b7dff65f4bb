-- The key of the number is the first byte and those that the word has.
use Rattle.std.proofs.Common.{◌+◌, ◌∙◌, ap}
use Rattle.vortex_row.specs.Bytes.{inverted_byte}
use Rattle.vortex_row.proofs.NumberForms.{number-at_once, side-away}
use Rattle.vortex_row.proofs.decode.numbers.number_at_once.Goals as goal

pub common_number_of-requires : goal.common_number_of-requires
common_number_of-requires c = side-away c.inverted_if-head.result c.in_ok-below.below c.in_ok-below.width _ c.in_ok-distance.distance _ c.in_ok-below.ensures c.in_ok-distance.ensures

pub returns : goal.returns
returns c =
    let first = c.in_ok-first.ensures.item.3 in
    number-at_once c.args.ptype c.args.invert c.in_ok-below.below c.inverted_again.result c.inverted_if-head.result c.in_ok-below.width _ c.in_ok-distance.distance (1 + c.from.result) c.args.bytes.now c.bytes_from-rest.result.now c.in_ok-number.number
    (λ k. (c.type_inv.bytes k).fits) first.0 (c.inverted_if-head.ensures ∙ ap (inverted_byte c.args.invert) (first.1 0)) c.bytes_from-rest.ensures c.inverted_again.ensures c.in_ok-below.ensures c.in_ok-distance.ensures
    c.in_ok-number.ensures
    (ap (λ w. 1 + w) c.from.ensures)
