use Rattle.std.proofs.Common.{◌∙◌, ℤ, FitsSigned, List, Option, ap, refl, rules, subst, sym}
use Rattle.std.proofs.lemmas.Int.{to_z-of_z}
use Rattle.std.specs.Int.{w128}
use Rattle.arrow_columns.specs.Columns.{integer_cells}
use Rattle.column_cells.specs.Contents.{integer_contents}
use Rattle.column_cells.specs.Types.{ptype_of_kind}
use Rattle.vortex_dtype.specs.TypeTree.{integer_type}
use Rattle.vortex_dtype.specs.declared.nullability.Nullability.TheVariants.{Nullable}
use Rattle.vortex_pvalue.specs.Numbers.{InRange}
use Rattle.vortex_value.specs.Order.{order}
use Rattle.vortex_value.specs.Values.Content.{whole}
use Rattle.column_statistics.specs.Extremes.{order_down}
use Rattle.column_statistics.proofs.CompleteLaws.{extreme_scalar}
use Rattle.column_statistics.proofs.ContentLaws.{all_null, nulls_of}
use Rattle.column_statistics.proofs.IntegerRanges.{integer_in}
use Rattle.column_statistics.proofs.KindLaws.{extremes_are, greatest_whole, least_whole, nulls_alone}
use Rattle.column_statistics.proofs.extremes.summary_of_integers.Goals as goal

pub integer_scalar-requires : goal.integer_scalar-requires
integer_scalar-requires c =
    let rows = c.args.rows.now in
    let e = c.in-Some.extremes in
    let h = extremes_are rows.kind rows.column c.statistics-statistics.result e c.statistics-statistics.ensures c.in-Some.is in
    let f : FitsSigned w128 e.least = search rules in
    subst (InRange (ptype_of_kind rows.kind)) (sym (to_z-of_z w128 e.least f)) (integer_in rows.kind rows.column e.least c.items_are_bytes.ensures h.0.0)

pub integer_scalar-requires-in-Some : goal.integer_scalar-requires-in-Some
integer_scalar-requires-in-Some c =
    let rows = c.args.rows.now in
    let e = c.in-Some.extremes in
    let h = extremes_are rows.kind rows.column c.statistics-statistics.result e c.statistics-statistics.ensures c.in-Some.is in
    let f : FitsSigned w128 e.greatest = search rules in
    subst (InRange (ptype_of_kind rows.kind)) (sym (to_z-of_z w128 e.greatest f)) (integer_in rows.kind rows.column e.greatest c.items_are_bytes.ensures h.1.0)

pub returns-in-Some : goal.returns-in-Some
returns-in-Some c =
    let rows = c.args.rows.now in
    let cells : List (Option ℤ) = integer_cells rows.kind rows.column in
    let t = integer_type (ptype_of_kind rows.kind) Nullable in
    let e = c.in-Some.extremes in
    let h = extremes_are rows.kind rows.column c.statistics-statistics.result e c.statistics-statistics.ensures c.in-Some.is in
    let f : FitsSigned w128 e.least = search rules in
    let g : FitsSigned w128 e.greatest = search rules in
    let x = c.integer_scalar in
    let y = c.integer_scalar-in-Some in
    record {
      nulls = c.statistics-statistics.ensures.nulls ∙ nulls_of whole (λ z. refl) cells;
      extremes = record {
        least = extreme_scalar order t (integer_contents rows.kind rows.column) (whole e.least) x.result (least_whole cells e.least h.0)
            x.ensures.typed (x.ensures.content ∙ ap whole (to_z-of_z w128 e.least f)) x.ensures.valid;
        greatest = extreme_scalar order_down t (integer_contents rows.kind rows.column) (whole e.greatest) y.result (greatest_whole cells e.greatest h.1)
            y.ensures.typed (y.ensures.content ∙ ap whole (to_z-of_z w128 e.greatest g)) y.ensures.valid;
      };
    }

pub returns-in-None : goal.returns-in-None
returns-in-None c =
    let rows = c.args.rows.now in
    let cells : List (Option ℤ) = integer_cells rows.kind rows.column in
    let h = nulls_alone rows.kind rows.column c.statistics-statistics.result c.statistics-statistics.ensures c.in-None.is in
    record {
      nulls = c.statistics-statistics.ensures.nulls ∙ nulls_of whole (λ z. refl) cells;
      extremes = all_null whole (λ z. refl) cells h;
    }
