-- The columns so far are described fully, for any rows that their statistics are complete for.
use Rattle.std.proofs.Common.{◌≡◌, ◌++◌, length}
use Rattle.std.specs.Vec.Iter.{into_iter_items, into_iter_len}
use Rattle.record_search.proofs.ObserveLaws.{AreEncodingsOf}
use Rattle.record_search.proofs.describing.encodings_of.Given as goal

abbrev pub invariant-loop-column : goal.invariant-loop-column
invariant-loop-column l =
    (l.yielded ++ into_iter_items l.column-iterator ≡ into_iter_items l.initial.column-iterator)
    × AreEncodingsOf l.describer.schema.now.columns.items l.describer.bound_length l.yielded l.output.items
    × (into_iter_len l.column-iterator ≡ length (into_iter_items l.column-iterator))
