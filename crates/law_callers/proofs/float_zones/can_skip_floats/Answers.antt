-- No row of the zone matches, and floats compare as their storages do.
use Rattle.std.proofs.Common.{◌≡◌, ◌∙◌, ap, map, subst}
use Rattle.std.specs.Float.{binary64}
use Rattle.float_storage.specs.Storage.{storage_of}
use Rattle.vortex_cells.specs.Cells.{Cell, cell_of}
use Rattle.vortex_filter.specs.Formula.{compare_truth, comparison, Formula}
use Rattle.vortex_filter.specs.Operators.{holds}
use Rattle.vortex_filter.specs.declared.truth.Truth.TheVariants.{True}
use Rattle.vortex_filter.proofs.Steps.{formula-Compare}
use Rattle.vortex_statistics.specs.Statistics.{known}
use Rattle.filter_pruning.specs.Pruning.{MatchesNoRow}
use Rattle.law_callers.proofs.FloatTruths.{not_held, turned}
use Rattle.law_callers.proofs.float_zones.can_skip_floats.Goals as goal

pub returns : goal.returns
returns c = λ rows right row inside x there same float_held skipped.
    let op = c.args.operator in
    let a = storage_of binary64 c.args.float in
    let b = storage_of binary64 c.args.number in
    let none : MatchesNoRow (comparison c.args.column op (cell_of c.args.literal)) (map known c.args.statistics.now) =
    subst (λ (f : Formula). MatchesNoRow f (map known c.args.statistics.now)) (formula-Compare c.args.column op c.args.literal) (c.may_match-may_match.ensures.loses_nothing (turned c.may_match-may_match.result skipped)) in
    let unlike : compare_truth op (cell_of x) (cell_of c.args.literal) ≡ True → ⊥ =
    subst (λ (y : Cell). compare_truth op y (cell_of c.args.literal) ≡ True → ⊥) there (none rows right row inside) in
    ap (holds op) c.storages_sort_as_f64.ensures.order
    ∙ not_held op x c.args.literal a b float_held c.requires (c.scalars_sort_as_storages.ensures x c.args.literal a b float_held c.requires same) unlike
