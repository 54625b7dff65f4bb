-- A zone that the statistics decide is taken as a search takes it.
use Rattle.std.proofs.Common.{◌≡◌, true, false, cond, List, [], length, map, sym, ap, ◌∙◌, arith}
use Rattle.std.proofs.lemmas.Grind.{common_steps}
use Rattle.std.proofs.lemmas.List.{length-map}
use Rattle.vortex_cells.specs.Cells.{Cell, cell_of}
use Rattle.vortex_statistics.specs.Statistics.{known}
use Rattle.vortex_statistics.specs.declared.column_statistics.ColumnStatistics.{ColumnStatistics}
use Rattle.vortex_filter.specs.Formula.{formula}
use Rattle.filter_pruning.specs.OutcomeSets.{is_only_true}
use Rattle.filter_pruning.specs.Outcomes.{outcomes}
use Rattle.filter_pruning.specs.Searching.{matching, taken_of}
use Rattle.law_callers.specs.RowZones.{zone_of}
use Rattle.law_callers.proofs.filter_laws.RowZone.count.Goals as goal

pub returns-then-not-may_match : goal.returns-then-not-may_match
returns-then-not-may_match c =
    let f = formula c.args.filter.now in
    let z = zone_of c.args.self.now in
    let may : (outcomes f z.statistics).may_be_true ≡ false =
    ap (λ (ss : List ColumnStatistics). (outcomes f (map known ss)).may_be_true) (sym c.deref.ensures.value) ∙ sym c.may_match.ensures.value ∙ c.if-not-may_match.true in
    let none : taken_of f z ≡ [] = ap (λ b. cond b (cond (is_only_true (outcomes f z.statistics)) z.rows (matching f z.rows)) []) may in
    ap length (sym none ∙ c.searches_find_all.ensures.zone f z c.requires.right)

pub returns-then-must_match : goal.returns-then-must_match
returns-then-must_match c =
    let f = formula c.args.filter.now in
    let z = zone_of c.args.self.now in
    let may : (outcomes f z.statistics).may_be_true ≡ true =
    ap (λ (ss : List ColumnStatistics). (outcomes f (map known ss)).may_be_true) (sym c.deref.ensures.value) ∙ sym c.may_match.ensures.value ∙ c.if-not-may_match.false in
    let must : is_only_true (outcomes f z.statistics) ≡ true =
    ap (λ (ss : List ColumnStatistics). is_only_true (outcomes f (map known ss))) (sym c.deref-2.ensures.value) ∙ sym c.must_match.ensures.value ∙ c.if-must_match.true in
    let all : taken_of f z ≡ z.rows =
    ap (λ b. cond b (cond (is_only_true (outcomes f z.statistics)) z.rows (matching f z.rows)) []) may
    ∙ ap (λ b. cond b z.rows (matching f z.rows)) must in
    let each : length z.rows ≡ length (matching f z.rows) = ap length (sym all ∙ c.searches_find_all.ensures.zone f z c.requires.right) in
    let same : length z.rows ≡ length c.args.self.now.rows.items = length-map c.args.self.now.rows.items (λ row. map cell_of row.items) in
    grind (arith, common_steps, each, same)
