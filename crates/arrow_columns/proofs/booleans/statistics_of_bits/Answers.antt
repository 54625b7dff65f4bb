use Rattle.std.proofs.Common.{◌≡◌, ◌∙◌, None, Option, Some, Bool, arith, false, sym, true, ℕ}
use Rattle.std.specs.Option.{is_none}
use Rattle.arrow_columns.specs.Bitmaps.{bit_of}
use Rattle.arrow_columns.specs.Cells.{cell_at}
use Rattle.arrow_columns.specs.Statistics.{is_false_cell, is_true_cell}
use Rattle.arrow_columns.proofs.CellLists.{count_more, null_cell, valid_cell}
use Rattle.arrow_columns.proofs.booleans.statistics_of_bits.Goals as goal
use Rattle.arrow_columns.proofs.booleans.statistics_of_bits.Goals.{else-is_row_valid, then-is_row_valid+else-is_set, then-is_row_valid+then-is_set}

pub loop-i-preserved : goal.loop-i-preserved
loop-i-preserved c =
    let C : ℕ → Option Bool = cell_at c.args.validity.now (bit_of c.args.values.now) in
    let i : ℕ = c.loop-i.i in
    elim c.if-is_row_valid.branch [
      | then-is_row_valid+then-is_set w ↦
          let cell : C i ≡ Some true = valid_cell c.args.validity.now (bit_of c.args.values.now) i true (sym c.is_row_valid.ensures ∙ w.if-is_row_valid.true) (sym w.if-is_set.true ∙ w.is_set.ensures) in
          record {
            nulls_within = omega (arith, w.null_count-is, c.loop-i.invariant.nulls_within);
            falses_within = omega (arith, w.false_count-is, c.loop-i.invariant.falses_within);
            trues_within = omega (arith, w.true_count-is, c.loop-i.invariant.trues_within);
            nulls_counted = count_more is_none C c.args.from i c.loop-i.null_count _ (Some true) (omega arith) cell c.loop-i.invariant.nulls_counted (omega (arith, w.null_count-is));
            falses_counted = count_more is_false_cell C c.args.from i c.loop-i.false_count _ (Some true) (omega arith) cell c.loop-i.invariant.falses_counted (omega (arith, w.false_count-is));
            trues_counted = count_more is_true_cell C c.args.from i c.loop-i.true_count _ (Some true) (omega arith) cell c.loop-i.invariant.trues_counted (omega (arith, w.true_count-is));
          }
      | then-is_row_valid+else-is_set w ↦
          let cell : C i ≡ Some false = valid_cell c.args.validity.now (bit_of c.args.values.now) i false (sym c.is_row_valid.ensures ∙ w.if-is_row_valid.true) (sym w.if-is_set.false ∙ w.is_set.ensures) in
          record {
            nulls_within = omega (arith, w.null_count-is, c.loop-i.invariant.nulls_within);
            falses_within = omega (arith, w.false_count-is, c.loop-i.invariant.falses_within);
            trues_within = omega (arith, w.true_count-is, c.loop-i.invariant.trues_within);
            nulls_counted = count_more is_none C c.args.from i c.loop-i.null_count _ (Some false) (omega arith) cell c.loop-i.invariant.nulls_counted (omega (arith, w.null_count-is));
            falses_counted = count_more is_false_cell C c.args.from i c.loop-i.false_count _ (Some false) (omega arith) cell c.loop-i.invariant.falses_counted (omega (arith, w.false_count-is));
            trues_counted = count_more is_true_cell C c.args.from i c.loop-i.true_count _ (Some false) (omega arith) cell c.loop-i.invariant.trues_counted (omega (arith, w.true_count-is));
          }
      | else-is_row_valid w ↦
          let cell : C i ≡ None = null_cell c.args.validity.now (bit_of c.args.values.now) i (sym c.is_row_valid.ensures ∙ w.if-is_row_valid.false) in
          record {
            nulls_within = omega (arith, w.null_count-is, c.loop-i.invariant.nulls_within);
            falses_within = omega (arith, w.false_count-is, c.loop-i.invariant.falses_within);
            trues_within = omega (arith, w.true_count-is, c.loop-i.invariant.trues_within);
            nulls_counted = count_more is_none C c.args.from i c.loop-i.null_count _ (None) (omega arith) cell c.loop-i.invariant.nulls_counted (omega (arith, w.null_count-is));
            falses_counted = count_more is_false_cell C c.args.from i c.loop-i.false_count _ (None) (omega arith) cell c.loop-i.invariant.falses_counted (omega (arith, w.false_count-is));
            trues_counted = count_more is_true_cell C c.args.from i c.loop-i.true_count _ (None) (omega arith) cell c.loop-i.invariant.trues_counted (omega (arith, w.true_count-is));
          }
    ]
