use Rattle.std.proofs.Common.{map}
use Rattle.vortex_statistics.specs.Statistics.{known}
use Rattle.vortex_cells.proofs.CellLaws.{from_below}
use Rattle.vortex_filter.specs.Formula.{formula}
use Rattle.filter_pruning.specs.Residual.{residual}
use Rattle.filter_pruning.proofs.SimplifySteps.{decided_left, filter_left, refused_left, same_left, smaller_left, value_left}
use Rattle.filter_pruning.proofs.residual.simplify.Goals as goal

pub returns : goal.returns
returns c =
    let made = filter_left (map known c.args.statistics.now) (formula c.args.filter.now) c.residual_of.result c.left_filter.result c.residual_of.ensures.left c.left_filter.ensures.left in
    record {
      value = value_left (map known c.args.statistics.now) (formula c.args.filter.now) c.left_filter.result made;
      same = same_left (from_below c.order_is_reversed.ensures.contents c.order_is_transitive.ensures.contents) (map known c.args.statistics.now) (formula c.args.filter.now) c.left_filter.result made;
      smaller = smaller_left (map known c.args.statistics.now) (formula c.args.filter.now) c.left_filter.result made;
      decided = decided_left (map known c.args.statistics.now) (formula c.args.filter.now) c.left_filter.result made;
      valid = λ v. c.left_filter.ensures.valid v (c.residual_of.ensures.valid v);
      refused = refused_left (residual (map known c.args.statistics.now) (formula c.args.filter.now)) c.left_filter.result made;
    }
