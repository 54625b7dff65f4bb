use Rattle.arrow_columns.specs.Statistics.{NotAbove}
use Rattle.arrow_columns.proofs.ByteOrder.{Ranks, upward}
use Rattle.arrow_columns.proofs.byte_spans.ByteSpan.of.Goals as goal

pub between-requires : goal.between-requires
between-requires c = let r : Ranks NotAbove = upward in r.same c.args.value.now
