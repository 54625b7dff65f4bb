use Rattle.std.proofs.Common.{◌≡◌, ◌*◌, take}
use Rattle.arrow_columns.proofs.byte_spans.begins_alike.Given as goal

abbrev pub invariant-loop-k : goal.invariant-loop-k
invariant-loop-k l = take (8 * l.k) l.value ≡ take (8 * l.k) l.other
