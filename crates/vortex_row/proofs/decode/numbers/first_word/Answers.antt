-- The word of eight bytes.
use Rattle.vortex_row.proofs.NumberWords.{word-found}
use Rattle.vortex_row.proofs.decode.numbers.first_word.Goals as goal

pub returns-in-len8-up : goal.returns-in-len8-up
returns-in-len8-up c = word-found c.args.bytes.now c.from_be_bytes.result (λ k. (c.type_inv.bytes k).fits) c.in-len8-up.len_at_least c.from_be_bytes.ensures
