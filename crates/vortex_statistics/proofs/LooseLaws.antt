-- Looser bounds are right.
use Rattle.std.proofs.Common.{List, Option, Some, None, IfSome, Ordering}
use Rattle.vortex_value.specs.Order.{IsReversed, IsTransitive, order}
use Rattle.vortex_cells.specs.Cells.{Cell, cell_order, order_from_above}
use Rattle.vortex_statistics.specs.Loosening.{IsLooser, LooserBoundsAreRight}
use Rattle.vortex_statistics.specs.Statistics.{IsBound, KnownBound}
use Rattle.vortex_cells.proofs.CellLaws.{IsOrder, equal_equal, from_above, from_below, up_up}

pub looser_bound : (cmp : Cell → Cell → Option Ordering) (law : IsOrder cmp) (b before : Option KnownBound) (cells : List Cell)
    → IsLooser cmp b before → IfSome before (λ c. IsBound cmp c cells) → IfSome b (λ c. IsBound cmp c cells)
looser_bound cmp law None before cells l h = tt
looser_bound cmp law (Some b) None cells l h = absurd l
looser_bound cmp law (Some b) (Some before) cells l h = record {
  bounds = λ x v. up_up cmp law b.value before.value x l.0 (h.bounds x v);
  exact = λ e. let p = l.1 e in let w = h.exact p.0 in (w.0, w.1, equal_equal cmp law b.value before.value w.0 p.1 w.2);
}

pub loosened : IsReversed order → IsTransitive order → LooserBoundsAreRight
loosened rev trans s lower upper cells right l u = record {
  rows = right.rows;
  nulls = right.nulls;
  lower = looser_bound cell_order (from_below rev trans) lower s.lower cells l right.lower;
  upper = looser_bound order_from_above (from_above (from_below rev trans)) upper s.upper cells u right.upper;
}
