use Rattle.std.proofs.Common.{[], ◌∙◌, ◌+◌, ◌/◌, ◌<◌, ap, arith, length, ℕ}
use Rattle.std.proofs.lemmas.Int.{ints}
use Rattle.std.proofs.lemmas.List.{get_or_read}
use Rattle.std.proofs.lemmas.Nat.{le-div}
use Rattle.arrow_columns.specs.Integers.{number_of}
use Rattle.arrow_columns.proofs.BufferItems.{item_is}
use Rattle.arrow_columns.proofs.CellLists.{through_number}
use Rattle.arrow_columns.proofs.reading.integer.Goals as goal

pub returns : goal.returns
returns g c =
    let m : ℕ = length c.args.values.now / g.row.N in
    let within : c.args.i < m = omega (arith, le-div (c.args.i + 1) (length c.args.values.now) g.row.N c.requires.some c.requires.values) in
    through_number _ (g.T.Item.number c.of_bytes.result) _ (omega (arith, ints, c.whole.ensures))
    (c.of_bytes.ensures ∙ ap (number_of g.T.Item.kind)
    (get_or_read c.as_chunks.result.0.now _ _ (omega (arith, within, c.as_chunks.ensures.front_len)) c.index-items-i.is []
    ∙ item_is g.row.N m c.args.values.now c.as_chunks.result.0.now c.args.i c.as_chunks.ensures.front within))
