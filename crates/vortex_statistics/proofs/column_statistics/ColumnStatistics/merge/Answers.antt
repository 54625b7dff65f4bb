use Rattle.std.proofs.Common.{◌≡◌, ◌+◌, ◌<◌, ◌^◌, subst, rules}
use Rattle.vortex_statistics.specs.Merging.{AreCompleteTogether, AreRightTogether, merged}
use Rattle.vortex_statistics.specs.Statistics.{Known, known}
use Rattle.vortex_statistics.specs.declared.column_statistics.ColumnStatistics.{ColumnStatistics}
use Rattle.vortex_statistics.proofs.MergeLaws.{merged_complete, merged_right}
use Rattle.vortex_statistics.proofs.column_statistics.ColumnStatistics.merge.Goals as goal

pub returns-clause-right : goal.returns-clause-right
returns-clause-right c =
    let P : Known → Type 0 = λ u. AreRightTogether (known c.args.self) (known c.args.other) u in
    let made : ColumnStatistics = record {
      row_count = c.in-Some.row_count;
      null_count = c.sum_of.result;
      lower = c.merge_bounds.result;
      upper = c.merge_bounds-2.result;
    } in
    let same : merged (known c.args.self) (known c.args.other) ≡ known made = search rules in
    subst P same (merged_right c.order_is_reversed.ensures.contents c.order_is_transitive.ensures.contents (known c.args.self) (known c.args.other))

pub returns-clause-complete : goal.returns-clause-complete
returns-clause-complete c =
    let P : Known → Type 0 = λ u. AreCompleteTogether (known c.args.self) (known c.args.other) u in
    let made : ColumnStatistics = record {
      row_count = c.in-Some.row_count;
      null_count = c.sum_of.result;
      lower = c.merge_bounds.result;
      upper = c.merge_bounds-2.result;
    } in
    let same : merged (known c.args.self) (known c.args.other) ≡ known made = search rules in
    let fits : c.args.self.row_count + c.args.other.row_count < 2 ^ 64 = search rules in
    subst P same (merged_complete c.order_is_reversed.ensures.contents c.order_is_transitive.ensures.contents (known c.args.self) (known c.args.other) fits)

pub returns-clause-valid : goal.returns-clause-valid
returns-clause-valid c = λ one other. record {
  lower = c.merge_bounds.ensures.valid one.lower other.lower;
  upper = c.merge_bounds-2.ensures.valid one.upper other.upper;
}
