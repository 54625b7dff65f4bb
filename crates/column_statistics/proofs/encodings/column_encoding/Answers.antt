-- The bytes are those of the column's type.
use Rattle.std.proofs.Common.{◌∙◌, ap}
use Rattle.column_cells.specs.Types.{type_of_column}
use Rattle.named_statistics.specs.Named.{named_encoding}
use Rattle.vortex_statistics.specs.Statistics.{known}
use Rattle.column_statistics.proofs.EncodingLaws.{are_of, no_variant_in}
use Rattle.column_statistics.proofs.encodings.column_encoding.Goals as goal

pub returns-in-Some-clause-encoding : goal.returns-in-Some-clause-encoding
returns-in-Some-clause-encoding c =
    let column = c.args.column in
    let s = c.in-Ok.statistics in
    record {
      statistics = s;
      cut = c.in-Ok.ensures.statistics;
      right = c.in-Ok.ensures.right;
      of_type = are_of (type_of_column column) s (no_variant_in column) c.in-Ok.ensures.typed c.in-Some.ensures.held;
      is = c.in-Some.ensures.written ∙ ap (λ t. named_encoding t (known s)) c.in-Ok-dtype_of_column.ensures;
    }
