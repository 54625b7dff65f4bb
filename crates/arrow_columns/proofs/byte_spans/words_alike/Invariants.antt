use Rattle.std.proofs.Common.{◌≡◌, ◌*◌, take}
use Rattle.arrow_columns.proofs.byte_spans.words_alike.Given as goal

abbrev pub invariant-loop-k : goal.invariant-loop-k
invariant-loop-k l = take (8 * l.k) l.one ≡ take (8 * l.k) l.other
