use Rattle.std.proofs.Common.{refl}
use Rattle.vortex_statistics.specs.Truncating.{AreTruncated}
use Rattle.vortex_statistics.specs.declared.column_statistics.ColumnStatistics.{ColumnStatistics}
use Rattle.vortex_statistics.proofs.ShortLaws.{truncated_short}
use Rattle.vortex_statistics.proofs.TruncateLaws.{truncated_right}
use Rattle.vortex_statistics.proofs.ValidLaws.{truncated_valid}
use Rattle.vortex_statistics.proofs.column_statistics.ColumnStatistics.truncate.Goals as goal

pub returns-clause-right : goal.returns-clause-right
returns-clause-right c = λ cells h.
    let t : ColumnStatistics = record { row_count = c.args.self.row_count; null_count = c.args.self.null_count; lower = c.in_ok-lower.lower; upper = c.in_ok-lower.upper } in
    let cut : AreTruncated c.args.n c.args.self t = record { rows = refl; nulls = refl; lower = c.in_ok-lower.ensures.lower; upper = c.in_ok-lower.ensures.upper } in
    truncated_right c.order_is_reversed.ensures.contents c.order_is_transitive.ensures.contents c.args.n cells c.args.self t cut h

pub returns-clause-short : goal.returns-clause-short
returns-clause-short c =
    let t : ColumnStatistics = record { row_count = c.args.self.row_count; null_count = c.args.self.null_count; lower = c.in_ok-lower.lower; upper = c.in_ok-lower.upper } in
    let cut : AreTruncated c.args.n c.args.self t = record { rows = refl; nulls = refl; lower = c.in_ok-lower.ensures.lower; upper = c.in_ok-lower.ensures.upper } in
    truncated_short c.args.n c.args.self t cut

pub returns-clause-valid : goal.returns-clause-valid
returns-clause-valid c =
    let t : ColumnStatistics = record { row_count = c.args.self.row_count; null_count = c.args.self.null_count; lower = c.in_ok-lower.lower; upper = c.in_ok-lower.upper } in
    let cut : AreTruncated c.args.n c.args.self t = record { rows = refl; nulls = refl; lower = c.in_ok-lower.ensures.lower; upper = c.in_ok-lower.ensures.upper } in
    truncated_valid c.args.n c.args.self t cut
