-- Bytes that are not so many pieces.
use Rattle.std.proofs.Common.{arith, rules}
use Rattle.record_search.proofs.Cutting.{no_pieces}
use Rattle.record_search.proofs.reading.read_statistics.Goals as goal

pub returns-then-not-are_pieces-clause-read : goal.returns-then-not-are_pieces-clause-read
returns-then-not-are_pieces-clause-read c =
    no_pieces c.args.columns.now c.args.bytes.now (λ i. omega (arith, c.type_inv.bytes i)) (c.are_pieces.ensures.none (search rules))
