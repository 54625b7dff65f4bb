use Rattle.std.proofs.Common.{◌∙◌, Bool, List, Option, refl}
use Rattle.arrow_columns.specs.Columns.{boolean_cells}
use Rattle.column_cells.specs.Contents.{boolean_contents}
use Rattle.vortex_dtype.specs.TypeTree.{bool_type}
use Rattle.vortex_dtype.specs.declared.nullability.Nullability.TheVariants.{Nullable}
use Rattle.vortex_value.specs.Order.{order}
use Rattle.vortex_value.specs.Values.Content.{truth}
use Rattle.column_statistics.specs.Extremes.{order_down}
use Rattle.column_statistics.proofs.CompleteLaws.{extreme_scalar}
use Rattle.column_statistics.proofs.ContentLaws.{all_null, nulls_of}
use Rattle.column_statistics.proofs.KindLaws.{greatest_truth, least_truth}
use Rattle.column_statistics.proofs.extremes.summary_of_booleans.Goals as goal

pub returns-in-Some : goal.returns-in-Some
returns-in-Some c =
    let column = c.args.rows.now.column in
    let cells : List (Option Bool) = boolean_cells column in
    let e = c.in-Some.truths in
    let p = c.in-Some.ensures cells c.statistics-statistics.ensures in
    let x = c.bool_scalar in
    let y = c.bool_scalar-in-Some in
    record {
      nulls = c.statistics-statistics.ensures.nulls ∙ nulls_of truth (λ z. refl) cells;
      extremes = record {
        least = extreme_scalar order (bool_type Nullable) (boolean_contents column) (truth e.least) x.result (least_truth cells e.least p.0) x.ensures.typed x.ensures.content x.ensures.valid;
        greatest = extreme_scalar order_down (bool_type Nullable) (boolean_contents column) (truth e.greatest) y.result (greatest_truth cells e.greatest p.1) y.ensures.typed y.ensures.content y.ensures.valid;
      };
    }

pub returns-in-None : goal.returns-in-None
returns-in-None c =
    let cells : List (Option Bool) = boolean_cells c.args.rows.now.column in
    record {
      nulls = c.statistics-statistics.ensures.nulls ∙ nulls_of truth (λ z. refl) cells;
      extremes = all_null truth (λ z. refl) cells (c.in-None.ensures cells c.statistics-statistics.ensures);
    }
