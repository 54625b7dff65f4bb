-- What one cell more does to each bound, as the code finds it before it changes any.
use Rattle.std.specs.Prelude.{Bool, true, false, Option, Some, None, is_some, option_map, if◌then◌else◌}
use Rattle.std.specs.declared.cmp.Ordering.{Ordering}
use Rattle.std.specs.declared.cmp.Ordering.TheVariants.{Less, Equal, Greater}
use Rattle.vortex_cells.specs.Cells.{Cell, cell_order, order_from_above}
use Rattle.vortex_statistics.specs.Statistics.{Known, KnownBound, may_be_value}
use Rattle.vortex_statistics.specs.declared.observing.Change.{Change}
use Rattle.vortex_statistics.specs.declared.observing.Change.TheVariants.{Keep, Confirm, Replace, Remove}

-- the bound that the cell makes
abbrev pub exact_bound : Cell → KnownBound
exact_bound x = record { value = x; is_exact = true }

-- the bound after the change, by which the cell may take its place
abbrev pub after : Change → Option KnownBound → Cell → Option KnownBound
after Keep b x = b
after Confirm b x = option_map (λ c. record { value = c.value; is_exact = true }) b
after Replace b x = Some (exact_bound x)
after Remove b x = None

abbrev pub replaces : Change → Bool
replaces Replace = true
replaces _ = false

-- the cell in the place of a bound, if it has an order with itself
abbrev pub replacing : Cell → Change
replacing x = if is_some (cell_order x x) then Replace else Remove

abbrev pub change_by : Option Ordering → Cell → Change
change_by None x = Remove
change_by (Some Less) x = Keep
change_by (Some Equal) x = Confirm
change_by (Some Greater) x = replacing x

abbrev pub change_of : (Cell → Cell → Option Ordering) → Option KnownBound → Cell → Change
change_of cmp None x = Keep
change_of cmp (Some b) x = change_by (cmp b.value x) x

abbrev pub lower_change : Known → Cell → Change
lower_change s x = if may_be_value s then change_of cell_order s.lower x else replacing x

-- whether the lower bound is exact and the change replaces it
abbrev pub leaves_upper : Option KnownBound → Change → Bool
leaves_upper None change = false
leaves_upper (Some b) change = if b.is_exact then replaces change else false

abbrev pub upper_change : Known → Cell → Change
upper_change s x =
    if may_be_value s
    then (if leaves_upper s.lower (change_of cell_order s.lower x) then Keep else change_of order_from_above s.upper x)
    else replacing x
