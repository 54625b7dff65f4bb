-- How the values of a zone can stand to a literal, by the bounds of the zone.
use Rattle.std.specs.Prelude.{Bool, true, false, ◌&&◌, ◌||◌, not, Option, Some, None, is_some, is_none}
use Rattle.std.specs.Ordering.{is_some_and, is_ge, is_gt}
use Rattle.std.specs.declared.cmp.Ordering.{Ordering}
use Rattle.std.specs.declared.cmp.Ordering.TheVariants.{Less, Equal, Greater}
use Rattle.vortex_value.specs.Values.Content.{Content, truth, whole, text, string}
use Rattle.vortex_cells.specs.Cells.{Cell, cell_order, order_from_above}
use Rattle.vortex_statistics.specs.Statistics.{Known, KnownBound}
use Rattle.vortex_filter.specs.declared.operator.CompareOperator.{CompareOperator}
use Rattle.filter_pruning.specs.declared.orders.Orders.{Orders}
use Rattle.vortex_filter.specs.Operators.{holds}

-- whether a value can stand so to the literal
abbrev pub includes : Orders → Option Ordering → Bool
includes s None = s.incomparable
includes s (Some Less) = s.less
includes s (Some Equal) = s.equal
includes s (Some Greater) = s.greater

-- ---- what a bound says

-- how the bound stands to the literal, in this order; `None` if it is not there
abbrev pub bound_order : (Cell → Cell → Option Ordering) → Option KnownBound → Cell → Option Ordering
bound_order cmp None literal = None
bound_order cmp (Some b) literal = cmp b.value literal

abbrev pub is_plain_content : Content → Bool
is_plain_content (truth b) = true
is_plain_content (whole z) = true
is_plain_content (text bs) = true
is_plain_content (string bs) = true
is_plain_content _ = false

-- whether a cell has no parts: a truth value, an integer, a string or bytes
abbrev pub is_plain : Cell → Bool
is_plain x = is_plain_content x.content

-- whether there is a bound, and it has no parts
abbrev pub is_plain_bound : Option KnownBound → Bool
is_plain_bound None = false
is_plain_bound (Some b) = is_plain b.value

-- whether each value compares with the literal, because a bound without parts does
abbrev pub settles : Option KnownBound → Option Ordering → Bool
settles bound o = is_some o && is_plain_bound bound

-- whether no value compares with the literal, because a bound without parts does not
abbrev pub rules_out : Option KnownBound → Option Ordering → Bool
rules_out bound o = is_none o && is_plain_bound bound

-- ---- what both bounds leave open

-- Never: no value compares with the literal; always: each does. The orders say how the bounds stand to it, each from its own
-- side. A value is on that side of the literal only if the bound is, and equal to it only if neither bound is past it.
abbrev pub orders_between : Bool → Bool → Option Ordering → Option Ordering → Orders
orders_between never always lower upper = record {
  less = not (never || is_some_and is_ge lower);
  equal = not (never || (is_some_and is_gt lower || is_some_and is_gt upper));
  greater = not (never || is_some_and is_ge upper);
  incomparable = not (always || (is_some_and is_ge lower || is_some_and is_ge upper));
}

-- the same by the bounds and how they stand
abbrev pub orders_by : Option KnownBound → Option KnownBound → Option Ordering → Option Ordering → Orders
orders_by lower upper o p = orders_between (rules_out lower o || rules_out upper p) (settles lower o || settles upper p) o p

-- how the values of a zone can stand to the literal
abbrev pub orders : Known → Cell → Orders
orders s literal = orders_by s.lower s.upper (bound_order cell_order s.lower literal) (bound_order order_from_above s.upper literal)

-- whether the comparison holds in one of the orders
abbrev pub may_hold : CompareOperator → Orders → Bool
may_hold op s = (s.less && holds op Less) || (s.equal && holds op Equal) || (s.greater && holds op Greater)

-- whether it fails in one of them
abbrev pub may_fail : CompareOperator → Orders → Bool
may_fail op s = (s.less && not (holds op Less)) || (s.equal && not (holds op Equal)) || (s.greater && not (holds op Greater))
